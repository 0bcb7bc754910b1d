-- Each step keeps a state sound; so what is accepted is a tree of the class that has the symbols.
use Rattle.std.proofs.Common.{◌≡◌, ℕ, zero, suc, Bool, true, false, ◌&&◌, if◌then◌else◌, List, [], ◌∷◌, ◌++◌, Option, Some, None, refl, ap, sym, ◌∙◌, subst, append_assoc, append-nil}
use Rattle.pc_syntax.specs.declared.lexeme.Lexeme.{Lexeme}
use Rattle.pc_syntax.specs.declared.lexeme.Lexeme.TheVariants as lexeme
use Rattle.pc_syntax.specs.declared.kind.Kind.{Kind}
use Rattle.pc_syntax.specs.declared.class.Class.{Class}
use Rattle.pc_syntax.specs.declared.item.Item.{Item}
use Rattle.pc_syntax.specs.declared.item.Item.TheVariants.{Literal, Word, Kid}
use Rattle.pc_syntax.specs.Plain.{Plain, forest_of}
use Rattle.pc_syntax.specs.Classes.{has}
use Rattle.pc_syntax.specs.Symbols.{Sym, symbols_of}
use Rattle.pc_parse.specs.Reading.{ReadsBare}
use Rattle.pc_parse.specs.Lookahead.{same_at, look, word_at, after}
use Rattle.pc_parse.specs.Tables.{Start, Leaf, Open, Predict, Blank, NoStart, start, grow, switch, recast, closes, turned_word, again}
use Rattle.pc_parse.specs.Machine.{Frame, frame, State, Opening, Reading, Holding, Plan, Take, Stuck, has_kids, on_start, on_switch, on_recast, on_close, at_close, on_kid, on_again, at_items, on_give, on_grow, at_kid, awaited, awaited_by}
use Rattle.pc_parse.specs.Runs.{make_plain, Step, Go, Accept, Refuse, apply, step, continue, exec}
use Rattle.pc_parse.specs.Proper.{Proper}
use Rattle.pc_parse.proofs.Entries.{&&_split}
use Rattle.pc_parse.proofs.Items.{same_eq}
use Rattle.pc_parse.proofs.SoundTables.{corner, is_mark, starts_ok, grows_ok}
use Rattle.pc_parse.proofs.SoundCloses.{closed_ok}
use Rattle.pc_parse.proofs.SoundFrames.{some_eq, mark, FrontOk, forest_of-push, last_open-snoc, give_front, literal_front, done_front}
use Rattle.pc_parse.proofs.SoundStates.{BelowOk, ReadingOk, HoldingOk, Sound, StepOk, marked_symbol, one_more, Below, on_start_ok, on_grow_ok}
use Rattle.pc_parse.proofs.SoundSwitches.{none-some, switched_ok, recast_ok, switch_none, again_ok, quiet_of, no_kid_calm}

-- the class that is awaited above these frames
awaits : (root : Class) (k : Kind) (fs : List (Frame Plain)) (before : List Sym) → BelowOk root k fs before
    → (c : Class) × (m : List Item) × (awaited_by root fs ≡ Some (c, m)) × (corner c k ≡ true) × Below root c fs before
awaits root k [] before b = (root, [], refl, b.0, λ j h. (h, b.1))
awaits root k (f ∷ fs) before b =
    (b.4.class, b.4.more, b.4.awaited_is, b.4.fits_corner, λ j h. (b.0, b.1, b.2, b.3, record { class = b.4.class; more = b.4.more; awaited_is = b.4.awaited_is; fits_corner = h }, b.5, b.6))

-- the kid that items await is their first
pub awaited_eq : (items : List Item) (c : Class) (m : List Item) → awaited items ≡ Some (c, m) → items ≡ Kid c ∷ m
awaited_eq [] c m h = cc
awaited_eq (Literal x ∷ n) c m h = cc
awaited_eq (Word x ∷ n) c m h = cc
awaited_eq (Kid d ∷ n) c m h =
    let p : (d, n) ≡ (c, m) = some_eq _ _ h in
    let e : d ≡ c = ap (λ (q : Class × List Item). q.0) p in
    let es : n ≡ m = ap (λ (q : Class × List Item). q.1) p in
    rw (e, es) refl

end_only : (ys : List Sym) → look ys ≡ None → ys ≡ []
end_only [] h = refl
end_only (y ∷ ys) h = cc

-- where a node is given: to the frame below, or as the whole
give_step : (root c : Class) (k : Kind) (t : Plain) (fs : List (Frame Plain)) (m : List Item) (b : Bool) (x : Option Lexeme) (whole used ys : List Sym)
    → HoldingOk root k t fs used (look ys) → awaited_by root fs ≡ Some (c, m) → has c k ≡ b → look ys ≡ x → used ++ ys ≡ whole → Proper ys
    → StepOk root whole (apply (on_give make_plain b t m fs x) ys)
give_step root c k t fs m false x whole used ys h e member ex split clean = tt
give_step root c k t [] m true None whole used ys h e member ex split clean =
    let p : (root, []) ≡ (c, m) = some_eq _ _ e in
    let ec : root ≡ c = ap (λ (q : Class × List Item). q.0) p in
    let none : ys ≡ [] = end_only ys ex in
    let all : used ≡ whole = sym (append-nil used) ∙ (rw none at split) in
    let text : used ≡ symbols_of t = h.used_is ∙ ap (λ l. l ++ symbols_of t) h.below.1 in
    record { member = rw (ec, h.node.kind_is) member; good = h.node.good; spelled = sym all ∙ text }
give_step root c k t [] m true (Some y) whole used ys h e member ex split clean = tt
give_step root c k t (f ∷ fs) m true x whole used ys h e member ex split clean =
    let pre = h.below.0 in
    let items : f.items ≡ Kid c ∷ m = awaited_eq f.items c m e in
    let kind_member : has c t.kind ≡ true = rw h.node.kind_is member in
    let front : FrontOk f.kind f.word (forest_of f.kids) (Kid c ∷ m) pre h.below.2 = rw items at h.below.3 in (
      used,
      split,
      clean,
      record {
        pre = pre ++ Kid c ∷ [];
        before = h.below.1;
        text = h.below.2 ++ symbols_of t;
        front = rw (forest_of-push f.kids t) (give_front f.kind f.word (forest_of f.kids) c m pre h.below.2 t front kind_member h.node.good);
        below = h.below.5;
        used_is = rw (h.used_is, h.below.6) (append_assoc h.below.1 h.below.2 (symbols_of t));
        calm = record { closed = λ a d. rw (forest_of-push f.kids t, last_open-snoc (forest_of f.kids) t, h.node.kind_is) (h.quiet.closed d) };
      },
    )

-- a node of kind k stands where one of kind j does
below_as : (root : Class) (j k : Kind) (fs : List (Frame Plain)) (before : List Sym) → ((c : Class) → corner c j ≡ true → corner c k ≡ true) → BelowOk root j fs before → BelowOk root k fs before
below_as root j k [] before h b = (h root b.0, b.1)
below_as root j k (f ∷ fs) before h b =
    (b.0, b.1, b.2, b.3, record { class = b.4.class; more = b.4.more; awaited_is = b.4.awaited_is; fits_corner = h b.4.class b.4.fits_corner }, b.5, b.6)

-- a frame goes on at a symbol that isn't its next item
switching_ok : (root : Class) (f : Frame Plain) (fs : List (Frame Plain)) (items : List Item) (whole used ys : List Sym)
    → ReadingOk root f fs used (look ys) → f.items ≡ items → used ++ ys ≡ whole → Proper ys
    → (k : Kind) (m : List Item) → switch f.kind items (look ys) ≡ Some (k, m) → StepOk root whole (Go (Reading (frame k (turned_word k f.word) f.kids m) fs) (after ys))
switching_ok root f fs items whole used [] r e split clean k m h = none-some (k, m) (sym (switch_none f.kind items) ∙ h)
switching_ok root f fs items whole used (y ∷ ys) r e split clean k m h =
    let front : FrontOk f.kind f.word (forest_of f.kids) items r.pre r.text = rw e at r.front in
    let s = switched_ok f.kind f.word (forest_of f.kids) items y.lexeme k m r.pre r.text h front r.calm in (
      used ++ mark y.lexeme ∷ [],
      one_more used (mark y.lexeme) y ys whole (marked_symbol y s.marked clean.0) split,
      clean.1,
      record {
        pre = r.pre ++ Literal y.lexeme ∷ [];
        before = r.before;
        text = r.text ++ mark y.lexeme ∷ [];
        front = s.front;
        below = below_as root f.kind k fs r.before s.corners r.below;
        used_is = rw r.used_is (append_assoc r.before r.text (mark y.lexeme ∷ []));
        calm = no_kid_calm r.pre y.lexeme (forest_of f.kids) (look ys);
      },
    )

switch_go : (o : Option (Kind × List Item)) (other : Plan Plain) (f : Frame Plain) (fs : List (Frame Plain)) (root : Class) (whole ys : List Sym)
    → ((k : Kind) (m : List Item) → o ≡ Some (k, m) → StepOk root whole (Go (Reading (frame k (turned_word k f.word) f.kids m) fs) (after ys)))
    → (o ≡ None → StepOk root whole (apply other ys))
    → StepOk root whole (apply (on_switch make_plain o other f fs) ys)
switch_go None other f fs root whole ys taken kept = kept refl
switch_go (Some p) other f fs root whole ys taken kept = taken p.0 p.1 refl

-- a frame goes on as another, and leaves the symbol
recast_step : (root : Class) (o : Option (Kind × List Item)) (other : Plan Plain) (f : Frame Plain) (fs : List (Frame Plain)) (items : List Item) (whole used ys : List Sym)
    → ReadingOk root f fs used (look ys) → f.items ≡ items → recast f.kind items (look ys) ≡ o → used ++ ys ≡ whole → Proper ys → StepOk root whole (apply other ys)
    → StepOk root whole (apply (on_recast make_plain o other f fs) ys)
recast_step root None other f fs items whole used ys r e h split clean kept = kept
recast_step root (Some p) other f fs items whole used ys r e h split clean kept =
    let front : FrontOk f.kind f.word (forest_of f.kids) items r.pre r.text = rw e at r.front in
    let s = recast_ok f.kind f.word (forest_of f.kids) items (look ys) p.0 p.1 r.pre r.text h front in (
      used,
      split,
      clean,
      record { pre = r.pre; before = r.before; text = r.text; front = s.front; below = below_as root f.kind p.0 fs r.before s.corners r.below; used_is = r.used_is; calm = r.calm },
    )

-- a list that ends in front of its last separator is given to the frame below
close_step : (root : Class) (f : Frame Plain) (fs : List (Frame Plain)) (items : List Item) (whole used ys : List Sym)
    → ReadingOk root f fs used (look ys) → f.items ≡ items → used ++ ys ≡ whole → Proper ys → StepOk root whole (apply (at_close make_plain items f fs) ys)
close_step root f [] items whole used ys r e split clean = tt
close_step root f (g ∷ fs) items whole used ys r e split clean = go (has_kids f.kids && closes f.kind items g.kind g.items) refl
  where
    go : (b : Bool) → has_kids f.kids && closes f.kind items g.kind g.items ≡ b → StepOk root whole (apply (on_close make_plain b f g fs) ys)
    go false h = tt
    go true h =
        let p = &&_split (has_kids f.kids) (closes f.kind items g.kind g.items) h in
        let front : FrontOk f.kind f.word (forest_of f.kids) items r.pre r.text = rw e at r.front in
        let b = r.below in
        let s = closed_ok f.kind items g.kind g.items f.word f.kids g.word g.kids r.pre b.0 b.2 r.text p.1 p.0 front b.3 in (
          used,
          split,
          clean,
          record {
            pre = s.pre ++ Literal lexeme.Semicolon ∷ [];
            before = b.1;
            text = b.2 ++ r.text;
            front = s.front;
            below = b.5;
            used_is = rw (r.used_is, b.6) (append_assoc b.1 b.2 r.text);
            calm = no_kid_calm s.pre lexeme.Semicolon (forest_of (g.kids ++ make_plain f.kind f.word f.kids ∷ [])) (look ys);
          },
        )

-- an awaited kid begins, where it can
kid_step : (root : Class) (g : Start) (other : Plan Plain) (fs : List (Frame Plain)) (whole ys : List Sym)
    → StepOk root whole (apply (on_start make_plain g (word_at ys) fs) ys) → StepOk root whole (apply other ys) → StepOk root whole (apply (on_kid make_plain g other (word_at ys) fs) ys)
kid_step root (Leaf k) other fs whole ys h i = h
kid_step root (Open k v m) other fs whole ys h i = h
kid_step root (Predict k m) other fs whole ys h i = h
kid_step root (Blank k) other fs whole ys h i = h
kid_step root NoStart other fs whole ys h i = i

-- a frame with no item left ends, or begins a further element
again_step : (root : Class) (o : Option Class) (f : Frame Plain) (fs : List (Frame Plain)) (whole used ys : List Sym)
    → ReadingOk root f fs used (look ys) → f.items ≡ [] → again f.kind (look ys) ≡ o → switch f.kind [] (look ys) ≡ None → used ++ ys ≡ whole → Proper ys
    → StepOk root whole (apply (on_again make_plain o (look ys) (word_at ys) f fs) ys)
again_step root None f fs whole used ys r e a none split clean =
    let front : FrontOk f.kind f.word (forest_of f.kids) [] r.pre r.text = rw e at r.front in
    let done = done_front f.kind f.word f.kids r.pre r.text front in (
      used,
      split,
      clean,
      record {
        before = r.before;
        node = done.0;
        below = r.below;
        used_is = r.used_is ∙ ap (λ l. r.before ++ l) (sym done.1);
        quiet = quiet_of f.kind f.word (forest_of f.kids) r.pre r.text (look ys) front r.calm none;
      },
    )
again_step root (Some c) f fs whole used ys r e a none split clean =
    let front : FrontOk f.kind f.word (forest_of f.kids) [] r.pre r.text = rw e at r.front in
    let longer = again_ok f.kind f.word (forest_of f.kids) (look ys) c r.pre r.text a front in
    on_start_ok root c (frame f.kind f.word f.kids (Kid c ∷ []) ∷ fs) (start c (look ys)) whole used ys
    (λ k h. (r.pre, r.before, r.text, longer, record { class = c; more = []; awaited_is = refl; fits_corner = h }, r.below, r.used_is))
    split clean (starts_ok c (look ys))

-- a frame goes on with its next item
items_step : (root : Class) (items : List Item) (f : Frame Plain) (fs : List (Frame Plain)) (whole used ys : List Sym)
    → ReadingOk root f fs used (look ys) → f.items ≡ items → used ++ ys ≡ whole → Proper ys → StepOk root whole (apply (at_items make_plain items f fs (look ys) (word_at ys)) ys)
items_step root [] f fs whole used ys r e split clean =
    switch_go (switch f.kind [] (look ys)) (on_again make_plain (again f.kind (look ys)) (look ys) (word_at ys) f fs) f fs root whole ys (switching_ok root f fs [] whole used ys r e split clean)
    (λ none. again_step root (again f.kind (look ys)) f fs whole used ys r e refl none split clean)
items_step root (Literal x ∷ m) f fs whole used ys r e split clean = go (same_at x (look ys)) refl
  where
    go : (b : Bool) → same_at x (look ys) ≡ b
        → StepOk root whole
        (apply (if b then Take (Reading (frame f.kind f.word f.kids m) fs) else on_switch make_plain (switch f.kind (Literal x ∷ m) (look ys)) (on_recast make_plain (recast f.kind (Literal x ∷ m) (look ys)) Stuck f fs) f fs) ys)
    go true h = literal_step ys r h split clean
      where
        literal_step : (zs : List Sym) → ReadingOk root f fs used (look zs) → same_at x (look zs) ≡ true → used ++ zs ≡ whole → Proper zs → StepOk root whole (Go (Reading (frame f.kind f.word f.kids m) fs) (after zs))
        literal_step [] r h split clean = cc
        literal_step (z ∷ zs) r h split clean =
            let front : FrontOk f.kind f.word (forest_of f.kids) (Literal x ∷ m) r.pre r.text = rw e at r.front in
            let x_is : x ≡ z.lexeme = same_eq x z.lexeme h in
            let x_mark : is_mark x ≡ true = (&&_split _ _ front.marked).0 in
            let z_mark : is_mark z.lexeme ≡ true = rw x_is at x_mark in
            let symbol : mark x ≡ z = ap mark x_is ∙ marked_symbol z z_mark clean.0 in (
              used ++ mark x ∷ [],
              one_more used (mark x) z zs whole symbol split,
              clean.1,
              record {
                pre = r.pre ++ Literal x ∷ [];
                before = r.before;
                text = r.text ++ mark x ∷ [];
                front = literal_front f.kind f.word (forest_of f.kids) x m r.pre r.text front;
                below = r.below;
                used_is = rw r.used_is (append_assoc r.before r.text (mark x ∷ []));
                calm = no_kid_calm r.pre x (forest_of f.kids) (look zs);
              },
            )
    go false h =
        switch_go (switch f.kind (Literal x ∷ m) (look ys)) (on_recast make_plain (recast f.kind (Literal x ∷ m) (look ys)) Stuck f fs) f fs root whole ys (switching_ok root f fs (Literal x ∷ m) whole used ys r e split clean)
        (λ none. recast_step root (recast f.kind (Literal x ∷ m) (look ys)) Stuck f fs (Literal x ∷ m) whole used ys r e refl split clean tt)
items_step root (Word x ∷ m) f fs whole used ys r e split clean = tt
items_step root (Kid c ∷ m) f fs whole used ys r e split clean =
    kid_step root (start c (look ys)) (on_recast make_plain (recast f.kind (Kid c ∷ m) (look ys)) (at_close make_plain (Kid c ∷ m) f fs) f fs) (f ∷ fs) whole ys
    (on_start_ok root c (f ∷ fs) (start c (look ys)) whole used ys
    (λ k h. (r.pre, r.before, r.text, r.front, record { class = c; more = m; awaited_is = ap awaited e; fits_corner = h }, r.below, r.used_is))
    split clean (starts_ok c (look ys)))
    (recast_step root (recast f.kind (Kid c ∷ m) (look ys)) (at_close make_plain (Kid c ∷ m) f fs) f fs (Kid c ∷ m) whole used ys r e refl split clean (close_step root f fs (Kid c ∷ m) whole used ys r e split clean))

pub step_ok : (root : Class) (st : State Plain) (whole used ys : List Sym) → Sound root st used (look ys) → used ++ ys ≡ whole → Proper ys → StepOk root whole (step root st ys)
step_ok root Opening whole used ys h split clean = on_start_ok root root [] (start root (look ys)) whole used ys (λ k i. (i, h)) split clean (starts_ok root (look ys))
step_ok root (Reading f fs) whole used ys h split clean = items_step root f.items f fs whole used ys h refl split clean
step_ok root (Holding k t fs) whole used ys h split clean =
    let a = awaits root k fs h.before h.below in
    let c = a.0 in
    let m = a.1 in
    let given : StepOk root whole (apply (on_give make_plain (has c k) t m fs (look ys)) ys) = give_step root c k t fs m (has c k) (look ys) whole used ys h a.2 refl refl split clean in
    let grown : StepOk root whole (apply (on_grow make_plain (grow k c (look ys)) (has c k) t m fs (look ys)) ys) =
    on_grow_ok root c k t fs m (grow k c (look ys)) (has c k) whole used h.before ys h.node h.quiet a.4 h.used_is given split clean (grows_ok c k (look ys) a.3) in
    let P : Option (Class × List Item) → Type 0 = λ o. StepOk root whole (apply (at_kid make_plain o k t fs (look ys)) ys) in
    subst P (sym a.2) grown

continued : (root : Class) (whole : List Sym) (r : Step) (go : State Plain → List Sym → Step) → StepOk root whole r
    → ((st : State Plain) (used ys : List Sym) → Sound root st used (look ys) → used ++ ys ≡ whole → Proper ys → StepOk root whole (go st ys)) → StepOk root whole (continue r go)
continued root whole (Go st ys) go ok more = more st ok.0 ys ok.3 ok.1 ok.2
continued root whole (Accept t) go ok more = ok
continued root whole (Refuse ys) go ok more = ok

-- what n steps from a sound state may answer
pub exec_ok : (n : ℕ) (root : Class) (st : State Plain) (whole used ys : List Sym) → Sound root st used (look ys) → used ++ ys ≡ whole → Proper ys → StepOk root whole (exec root n st ys)
exec_ok zero root st whole used ys h split clean = (used, split, clean, h)
exec_ok (suc n) root st whole used ys h split clean =
    continued root whole (step root st ys) (exec root n) (step_ok root st whole used ys h split clean) (λ st2 used2 zs i e d. exec_ok n root st2 whole used2 zs i e d)

-- what is accepted is a tree of the class that has these symbols
pub sound : (c : Class) (ys : List Sym) (n : ℕ) (t : Plain) → Proper ys → exec c n Opening ys ≡ Accept t → ReadsBare c t ys
sound c ys n t clean e =
    let h : StepOk c ys (exec c n Opening ys) = exec_ok n c Opening ys [] ys refl refl clean in
    rw e at h
