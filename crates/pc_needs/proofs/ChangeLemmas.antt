-- A program with another node in the statement part of a routine differs there alone.
use Rattle.std.specs.Prelude.{ℕ, ◌≡◌, ◌+◌, true, List, [], ◌∷◌, ◌++◌}
use Rattle.std.proofs.Common.{refl, ap, sym, subst, subst₂, ◌∙◌, true≢false, inl, inr, arith}
use Rattle.std.proofs.lemmas.Bool.{and_parts}
use Rattle.pc_syntax.specs.declared.kind.Kind.{Kind}
use Rattle.pc_syntax.specs.declared.kind.Kind.TheVariants as kind
use Rattle.pc_syntax.specs.declared.class.Class.TheVariants as class
use Rattle.pc_syntax.specs.Classes.{has}
use Rattle.pc_syntax.specs.Layout.{layout}
use Rattle.pc_syntax.specs.Places.{put}
use Rattle.pc_syntax.specs.Plain.{Forest, Nil, Cons, Plain, count, kinds}
use Rattle.pc_syntax.specs.WellFormed.{WellFormed, fits_some, IsProper}
use Rattle.pc_scope.specs.Blocks.{block_kids, kid_count}
use Rattle.pc_rules.specs.Errors.{is_program}
use Rattle.pc_rules.specs.OwnBlock.{own}
use Rattle.pc_rules.specs.RoutineList.{routines_below, program_routine, routines_of}
use Rattle.pc_rules.specs.Routines.{Routine}
use Rattle.pc_needs.specs.Bodies.{without_bodies, SameBlocksBut, DifferInBody, ChangeLaw}
use Rattle.pc_needs.specs.Unaffected.{IsOneOf}
use Rattle.pc_needs.proofs.BodyChanges.{below-change}
use Rattle.pc_needs.proofs.BodyParts.{SameBut, block-last, head-change}
use Rattle.pc_needs.proofs.BodyPaths.{Entry, entries, blocks_below, entries-below, InBelow, IsUnder, stand-below}
use Rattle.pc_needs.proofs.BodyTwins.{program-kind, program-heading}
use Rattle.pc_needs.proofs.Changed.{changed, put-changed}
use Rattle.pc_needs.proofs.Lists.{each-one}

-- own blocks of lists of routines
blocks-differ : (z : List ℕ) (rs us : List Routine) → SameBut z (entries rs) (entries us) → SameBlocksBut z rs us
blocks-differ z [] [] h = tt
blocks-differ z [] (u ∷ us) h = absurd h
blocks-differ z (r ∷ rs) [] h = absurd h
blocks-differ z (r ∷ rs) (u ∷ us) h = (h.0, blocks-differ z rs us h.1)

entries-program : (t : Plain) → entries (routines_of t) ≡ ([], own (block_kids t.kids)) ∷ blocks_below [] 1 t.kids
unfolding routines_of
entries-program t = ap (λ (es : List Entry). ([], own (block_kids t.kids)) ∷ es) (entries-below (program_routine t) 1 t.kids)

-- a program has three kids
three-kids : (w : List ℕ) (f : Forest) → fits_some (layout kind.Program w (count f)) (kinds f) ≡ true → kid_count f ≡ 3
three-kids (b ∷ w) f e = absurd (true≢false (sym e))
three-kids [] Nil e = absurd (true≢false (sym e))
three-kids [] (Cons a w1 n1 k1 Nil) e = absurd (true≢false (sym (and_parts (has class.Name a) _ e).1))
three-kids [] (Cons a w1 n1 k1 (Cons b w2 n2 k2 Nil)) e = absurd (true≢false (sym (and_parts (has class.Heads b) _ (and_parts (has class.Name a) _ e).1).1))
three-kids [] (Cons a w1 n1 k1 (Cons b w2 n2 k2 (Cons c w3 n3 k3 Nil))) e = refl
three-kids [] (Cons a w1 n1 k1 (Cons b w2 n2 k2 (Cons c w3 n3 k3 (Cons d w4 n4 k4 ts)))) e =
    absurd (true≢false (sym (and_parts (has class.Block c) _ (and_parts (has class.Heads b) _ (and_parts (has class.Name a) _ e).1).1).1))

-- two programs that differ in their kids
record AreClose (z : List ℕ) (f g : Forest) : Type 0 where
  frame : without_bodies f ≡ without_bodies g
  blocks : SameBut z (([], own (block_kids f)) ∷ blocks_below [] 1 f) (([], own (block_kids g)) ∷ blocks_below [] 1 g)

same-blocks : (z : List ℕ) (es : List Entry) → SameBut z es es
same-blocks z [] = tt
same-blocks z (e ∷ es) = (inr refl, same-blocks z es)

close-program : (t : Plain) (rest : List ℕ) (y : Plain) → IsProper t → is_program t.kind ≡ true → WellFormed (changed 1 3 (5 ∷ rest) y t.kids) → AreClose [] t.kids (changed 1 3 (5 ∷ rest) y t.kids)
close-program t rest y proper program v =
    let fit = subst (λ (k : Kind). fits_some (layout k t.word (count t.kids)) (kinds t.kids) ≡ true) (program-kind t.kind program) proper.sound.0 in
    let count : 3 + 1 ≡ 1 + kid_count t.kids = let e = three-kids t.word t.kids fit in omega (arith, e) in
    let one = head-change [] 1 3 rest y t.kids count (program-heading t proper program) (block-last kind.Program t.word t.kids refl fit) proper.sound.3 v in
    record { frame = one.0; blocks = (inl refl, subst (SameBut [] (blocks_below [] 1 t.kids)) one.1 (same-blocks [] (blocks_below [] 1 t.kids))) }

close-below : (t : Plain) (j : ℕ) (js : List ℕ) (n : ℕ) (rest : List ℕ) (y : Plain) → IsProper t → is_program t.kind ≡ true → WellFormed (changed 1 j (js ++ n ∷ 5 ∷ rest) y t.kids) → InBelow 1 t.kids j js n →
    AreClose (j ∷ js) t.kids (changed 1 j (js ++ n ∷ 5 ∷ rest) y t.kids)
close-below t j js n rest y proper program v h =
    let one = below-change [] 1 t.kids j js n rest y (program-heading t proper program) proper.sound.3 v h in
    record { frame = one.frame; blocks = (inr one.own_same, one.blocks) }

-- what differs, where the kids are close
differ : (t u : Plain) (x : Routine) (g : Forest) → IsOneOf (routines_of t) x → u ≡ record t { kids = g } → AreClose x.place t.kids g → DifferInBody t u x
differ t u x g among e c = record {
  among = among;
  frame = record { kind = sym (ap (λ (p : Plain). p.kind) e); word = sym (ap (λ (p : Plain). p.word) e); notes = sym (ap (λ (p : Plain). p.notes) e); kids = c.frame ∙ ap (λ (p : Plain). without_bodies p.kids) (sym e) };
  blocks = blocks-differ x.place (routines_of t) (routines_of u) (subst₂ (SameBut x.place) (sym (entries-program t))
      (sym (entries-program (record t { kids = g })) ∙ ap (λ (p : Plain). entries (routines_of p)) (sym e)) c.blocks);
}

pub change-law : ChangeLaw
unfolding routines_of
change-law t y x path proper_t proper_u program (inl e) s =
    let is : path ≡ 3 ∷ 5 ∷ s.0 = s.1 ∙ (λ i. (sym e i).place ++ (sym e i).block_kid ∷ 5 ∷ s.0) in
    let new : put path t y ≡ record t { kids = changed 1 3 (5 ∷ s.0) y t.kids } = ap (λ (p : List ℕ). put p t y) is ∙ put-changed (3 ∷ 5 ∷ s.0) t y in
    let v : WellFormed (changed 1 3 (5 ∷ s.0) y t.kids) = subst (λ (p : Plain). WellFormed p.kids) new proper_u.sound.3 in
    differ t (put path t y) x (changed 1 3 (5 ∷ s.0) y t.kids) (inl e) new (subst (λ (z : Routine). AreClose z.place t.kids (changed 1 3 (5 ∷ s.0) y t.kids)) e (close-program t s.0 y proper_t program v))
change-law t y x path proper_t proper_u program (inr m) s =
    let at : IsUnder [] 1 t.kids x = each-one (IsUnder [] 1 t.kids) (routines_below (program_routine t) 1 t.kids) x m (stand-below (program_routine t) 1 t.kids) in
    let more = at.1 ++ x.block_kid ∷ 5 ∷ s.0 in
    let is : path ≡ at.0 ∷ more = s.1 ∙ ap (λ (z : List ℕ). z ++ x.block_kid ∷ 5 ∷ s.0) at.2 in
    let new : put path t y ≡ record t { kids = changed 1 at.0 more y t.kids } = ap (λ (p : List ℕ). put p t y) is ∙ put-changed (at.0 ∷ more) t y in
    let v : WellFormed (changed 1 at.0 more y t.kids) = subst (λ (p : Plain). WellFormed p.kids) new proper_u.sound.3 in
    differ t (put path t y) x (changed 1 at.0 more y t.kids) (inr m) new
    (subst (λ (z : List ℕ). AreClose z t.kids (changed 1 at.0 more y t.kids)) (sym at.2) (close-below t at.0 at.1 x.block_kid s.0 y proper_t program v at.3))
