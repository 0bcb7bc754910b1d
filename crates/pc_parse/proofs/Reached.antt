-- What the loop keeps: what it has is what is kept of a state that the machine over trees reaches.
use Rattle.std.proofs.Common.{◌≡◌, ℕ, zero, suc, ◌-◌, ◌<◌, ◌≤◌, nat_le, Bool, true, false, if◌then◌else◌, List, [], ◌∷◌, Option, Some, None, map, refl, ap, sym, ◌∙◌}
use Rattle.std.specs.Prelude.{IfSome}
use Rattle.std.specs.Option.{option_map}
use Rattle.std.proofs.lemmas.Bool.{leb-true}
use Rattle.pc_syntax.specs.declared.kind.Kind.{Kind}
use Rattle.pc_syntax.specs.declared.class.Class.{Class}
use Rattle.pc_syntax.specs.declared.item.Item.{Item}
use Rattle.pc_syntax.specs.Plain.{Forest, Nil, Cons, Plain, node, count}
use Rattle.pc_syntax.specs.Symbols.{Sym}
use Rattle.pc_syntax.specs.WellFormed.{WellFormed, IsProper, depth_of, size_of, depth_limit, size_limit, takes_notes}
use Rattle.pc_parse.specs.declared.rows.Cut.{Cut}
use Rattle.pc_parse.specs.Reading.{Good, IsGood}
use Rattle.pc_parse.specs.Lookahead.{look, word_at, after}
use Rattle.pc_parse.specs.Machine.{Frame, frame, State, Opening, Reading, Holding, Plan, Stay, Take, End, Stuck, plan}
use Rattle.pc_parse.specs.Runs.{make_plain, Step, Go, Accept, Refuse, apply, step, continue, exec}
use Rattle.pc_parse.specs.Proper.{Proper}
use Rattle.pc_parse.specs.Rows.{Row, row_of, cut, is_within, made}
use Rattle.pc_parse.specs.Measured as measured
use Rattle.pc_parse.specs.Rows as rows
use Rattle.pc_parse.specs.Tables.{closes}
use Rattle.pc_parse.specs.Energy.{energy, below_energy}
use Rattle.pc_parse.proofs.Entries.{&&_split}
use Rattle.pc_parse.proofs.Payload.{frame_kept, state_kept, plan_kept, made-row_of, has_kids-row_of, plan_natural}
use Rattle.pc_parse.proofs.Energy.{is_some, stay_falls, take_has, take_falls_by, end_none}
use Rattle.pc_parse.proofs.SoundStates.{StepOk}
use Rattle.pc_parse.proofs.SoundCloses.{closed_good}
use Rattle.pc_parse.proofs.Sound.{exec_ok}

pub exec_then : (c : Class) (n : ℕ) (a : State Plain) (xs : List Sym) (b : State Plain) (ys : List Sym) → exec c n a xs ≡ Go b ys → exec c (suc n) a xs ≡ step c b ys
exec_then c zero a xs b ys e = ends (step c a xs) ∙ go e
  where
    ends : (r : Step) → continue r (exec c zero) ≡ r
    ends (Go st zs) = refl
    ends (Accept t) = refl
    ends (Refuse zs) = refl

    go : Go a xs ≡ Go b ys → step c a xs ≡ step c b ys
    go h = let p : a ≡ b = cc in let q : xs ≡ ys = cc in cc
exec_then c (suc n) a xs b ys e = more (step c a xs) (λ st zs h. exec_then c n st zs b ys h) e
  where
    more : (r : Step) → ((st : State Plain) (zs : List Sym) → exec c n st zs ≡ Go b ys → exec c (suc n) st zs ≡ step c b ys) → continue r (exec c n) ≡ Go b ys → continue r (exec c (suc n)) ≡ step c b ys
    more (Go st zs) ih h = ih st zs h
    more (Accept t) ih h = cc
    more (Refuse zs) ih h = cc

-- the machine over trees comes from the symbols to a state before the symbols that are left, of which this is kept
pub record Reached (c : Class) (input : List Sym) (s : measured.State) (ys : List Sym) : Type 0 where
  pub state : State Plain
  pub count : ℕ
  pub run : exec c count Opening input ≡ Go state ys
  pub seen : s ≡ state_kept state

pub reached_first : (c : Class) (input : List Sym) → Reached c input measured.Opening input
reached_first c input = record { state = Opening; count = 0; run = refl; seen = refl }

-- a step over what is kept is a step of the machine over trees
planned : (c : Class) (input : List Sym) (s : measured.State) (ys : List Sym) (p : measured.Plan) (r : Reached c input s ys) → p ≡ measured.plan c s (look ys) (word_at ys)
    → plan_kept (plan make_plain c r.state (look ys) (word_at ys)) ≡ p
planned c input s ys p r e = plan_natural c r.state (look ys) (word_at ys) ∙ ap (λ t. measured.plan c t (look ys) (word_at ys)) (sym r.seen) ∙ sym e

stay_of : (p : Plan Plain) (s : measured.State) → plan_kept p ≡ measured.Stay s → (st : State Plain) × (p ≡ Stay st) × (s ≡ state_kept st)
stay_of (Stay st) s e = (st, refl, cc)
stay_of (Take st) s e = cc
stay_of (End t) s e = cc
stay_of Stuck s e = cc

take_of : (p : Plan Plain) (s : measured.State) → plan_kept p ≡ measured.Take s → (st : State Plain) × (p ≡ Take st) × (s ≡ state_kept st)
take_of (Stay st) s e = cc
take_of (Take st) s e = (st, refl, cc)
take_of (End t) s e = cc
take_of Stuck s e = cc

end_of : (p : Plan Plain) (k : Cut) → plan_kept p ≡ measured.End k → (t : Plain) × (p ≡ End t) × (k ≡ cut t)
end_of (Stay st) k e = cc
end_of (Take st) k e = cc
end_of (End t) k e = (t, refl, cc)
end_of Stuck k e = cc

stuck_of : (p : Plan Plain) → plan_kept p ≡ measured.Stuck → p ≡ Stuck
stuck_of (Stay st) e = cc
stuck_of (Take st) e = cc
stuck_of (End t) e = cc
stuck_of Stuck e = refl

-- the energy by what is kept
abbrev outline_frame : measured.Frame → Frame (Unit {0})
outline_frame f = frame f.kind f.word [] f.items

abbrev pub outline : measured.State → State (Unit {0})
outline measured.Opening = Opening
outline (measured.Reading f fs) = Reading (outline_frame f) (map outline_frame fs)
outline (measured.Holding k a fs) = Holding k tt (map outline_frame fs)

abbrev pub energy_kept : measured.State → ℕ → ℕ
energy_kept s n = energy (outline s) n

below_same : (fs : List (Frame Plain)) → below_energy (map outline_frame (map frame_kept fs)) ≡ below_energy fs
below_same [] = refl
below_same (f ∷ fs) = rw (below_same fs) refl

energy_same : (st : State Plain) (n : ℕ) → energy_kept (state_kept st) n ≡ energy st n
energy_same Opening n = refl
energy_same (Reading f fs) n = rw (below_same fs) refl
energy_same (Holding k a fs) n = rw (below_same fs) refl

falls_by : (s t : measured.State) (a b : State Plain) (m n : ℕ) → s ≡ state_kept a → t ≡ state_kept b → energy b m < energy a n → energy_kept t m < energy_kept s n
falls_by s t a b m n p q f = rw (p, q, energy_same b m, energy_same a n) f

module _ (c : Class) (input : List Sym) (s : measured.State) (ys : List Sym) (r : Reached c input s ys) (p : measured.Plan) (e : p ≡ measured.plan c s (look ys) (word_at ys)) where
  -- a step that leaves the symbol
  pub moved_on : (t : measured.State) → p ≡ measured.Stay t → Reached c input t ys
  moved_on t h =
      let q = stay_of (plan make_plain c r.state (look ys) (word_at ys)) t (planned c input s ys p r e ∙ h) in
      let i : step c r.state ys ≡ Go q.0 ys = ap (λ o. apply o ys) q.1 in
      record { state = q.0; count = suc r.count; run = exec_then c r.count Opening input r.state ys r.run ∙ i; seen = q.2 }

  pub moved_falls : (t : measured.State) (n : ℕ) → p ≡ measured.Stay t → energy_kept t n < energy_kept s n
  moved_falls t n h =
      let q = stay_of (plan make_plain c r.state (look ys) (word_at ys)) t (planned c input s ys p r e ∙ h) in
      let f : energy q.0 n < energy r.state n = stay_falls make_plain c r.state q.0 (look ys) (word_at ys) n q.1 in
      falls_by s t r.state q.0 n n r.seen q.2 f

  -- a step that takes the symbol
  pub took_on : (t : measured.State) → p ≡ measured.Take t → Reached c input t (after ys)
  took_on t h =
      let q = take_of (plan make_plain c r.state (look ys) (word_at ys)) t (planned c input s ys p r e ∙ h) in
      let i : step c r.state ys ≡ Go q.0 (after ys) = ap (λ o. apply o ys) q.1 in
      record { state = q.0; count = suc r.count; run = exec_then c r.count Opening input r.state ys r.run ∙ i; seen = q.2 }

  pub took_has : (t : measured.State) → p ≡ measured.Take t → is_some (look ys) ≡ true
  took_has t h =
      let q = take_of (plan make_plain c r.state (look ys) (word_at ys)) t (planned c input s ys p r e ∙ h) in
      take_has make_plain c r.state q.0 (look ys) (word_at ys) q.1

  pub took_falls : (t : measured.State) (n : ℕ) → 1 ≤ n → p ≡ measured.Take t → energy_kept t (n - 1) < energy_kept s n
  took_falls t n le h =
      let q = take_of (plan make_plain c r.state (look ys) (word_at ys)) t (planned c input s ys p r e ∙ h) in
      let f : energy q.0 (n - 1) < energy r.state n = take_falls_by make_plain c r.state q.0 (look ys) (word_at ys) n le q.1 in
      falls_by s t r.state q.0 (n - 1) n r.seen q.2 f

  -- a step that ends with the tree
  pub ended_with : (k : Cut) → p ≡ measured.End k → (t : Plain) × (n : ℕ) × (exec c n Opening input ≡ Accept t) × (k ≡ cut t)
  ended_with k h =
      let q = end_of (plan make_plain c r.state (look ys) (word_at ys)) k (planned c input s ys p r e ∙ h) in
      let i : step c r.state ys ≡ Accept q.0 = ap (λ o. apply o ys) q.1 in
      (q.0, suc r.count, exec_then c r.count Opening input r.state ys r.run ∙ i, q.2)

  pub ended_none : (k : Cut) → p ≡ measured.End k → look ys ≡ None
  ended_none k h =
      let q = end_of (plan make_plain c r.state (look ys) (word_at ys)) k (planned c input s ys p r e ∙ h) in
      end_none make_plain c r.state q.0 (look ys) (word_at ys) q.1

  -- a step that refuses the symbol
  pub stuck_at : p ≡ measured.Stuck → plan make_plain c r.state (look ys) (word_at ys) ≡ Stuck
  stuck_at h = stuck_of (plan make_plain c r.state (look ys) (word_at ys)) (planned c input s ys p r e ∙ h)

  pub refused_at : p ≡ measured.Stuck → (n : ℕ) × (exec c n Opening input ≡ Refuse ys)
  refused_at h =
      let i : step c r.state ys ≡ Refuse ys = ap (λ o. apply o ys) (stuck_at h) in
      (suc r.count, exec_then c r.count Opening input r.state ys r.run ∙ i)

-- what is read is well formed
pub good_formed : (ts : Forest) → Good ts → WellFormed ts
good_formed Nil h = tt
good_formed (Cons k w ns ks ts) h =
    (h.0, ap (takes_notes k (count ks)) h.2, h.1, good_formed ks h.3, good_formed ts h.4)

-- a node that is held is good
held_good : (c : Class) (input : List Sym) (k : Kind) (t : Plain) (fs : List (Frame Plain)) (n : ℕ) (ys : List Sym) → Proper input → exec c n Opening input ≡ Go (Holding k t fs) ys → IsGood t
held_good c input k t fs n ys clean e =
    let h : StepOk c input (exec c n Opening input) = exec_ok n c Opening input [] input refl refl clean in
    let g : StepOk c input (Go (Holding k t fs) ys) = rw e at h in
    g.3.node.good

-- where the trees of the kids are kept, the node that is held is proper
made_proper : (k : Kind) (w : List ℕ) (ts : List Plain) (t : Plain) → IsGood t → Some (node k w [] ts) ≡ (cut t).tree → IsProper (node k w [] ts)
unfolding cut
made_proper k w ts t good e = go (is_within (depth_of t) (size_of t)) refl
  where
    go : (b : Bool) → is_within (depth_of t) (size_of t) ≡ b → IsProper (node k w [] ts)
    go true h =
        let p : Some (node k w [] ts) ≡ Some t = e ∙ ap (λ b. if b then Some t else None) h in
        let same : node k w [] ts ≡ t = cc in
        let q : (nat_le (depth_of t) depth_limit ≡ true) × (nat_le (size_of t) size_limit ≡ true) = &&_split _ _ h in
        let proper : IsProper t = record { sound = good_formed (Cons t.kind t.word t.notes t.kids Nil) good; shallow = leb-true _ _ q.0; small = leb-true _ _ q.1 } in
        rw same proper
    go false h = let p : Some (node k w [] ts) ≡ None = e ∙ ap (λ b. if b then Some t else None) h in cc

by_trees : (k : Kind) (w : List ℕ) (o : Option (List Plain)) (t : Plain) → IsGood t → option_map (node k w []) o ≡ (cut t).tree → IfSome o (λ ts. IsProper (node k w [] ts))
by_trees k w None t good e = tt
by_trees k w (Some ts) t good e = made_proper k w ts t good e

pub held_proper : (c : Class) (input : List Sym) (k : Kind) (w : List ℕ) (row : Row) (fs : List measured.Frame) (ys : List Sym)
    → Proper input → Reached c input (measured.Holding k (made k w row) fs) ys → IfSome row.trees (λ ts. IsProper (node k w [] ts))
held_proper c input k w row fs ys clean r = by_state r.state r.run r.seen
  where
    by_state : (st : State Plain) → exec c r.count Opening input ≡ Go st ys → measured.Holding k (made k w row) fs ≡ state_kept st → IfSome row.trees (λ ts. IsProper (node k w [] ts))
    by_state Opening run e = cc
    by_state (Reading f gs) run e = cc
    by_state (Holding j t gs) run e =
        let same : made k w row ≡ cut t = cc in
        by_trees k w row.trees t (held_good c input j t gs r.count ys clean run) (ap (λ (x : Cut). x.tree) same)

-- a list that may end in front of its last separator is good
closing_good : (c : Class) (input : List Sym) (f : Frame Plain) (fs : List (Frame Plain)) (n : ℕ) (ys : List Sym) (k : Kind) (m : List Item)
    → Proper input → exec c n Opening input ≡ Go (Reading f fs) ys → closes f.kind f.items k m ≡ true → rows.has_kids (row_of f.kids) ≡ true → IsGood (make_plain f.kind f.word f.kids)
closing_good c input f fs n ys k m clean e ends some =
    let h : StepOk c input (exec c n Opening input) = exec_ok n c Opening input [] input refl refl clean in
    let g : StepOk c input (Go (Reading f fs) ys) = rw e at h in
    closed_good f.kind f.items k m f.word f.kids g.3.pre g.3.text ends (sym (has_kids-row_of f.kids) ∙ some) g.3.front

abbrev frame_or : measured.Frame → measured.State → measured.Frame
frame_or d measured.Opening = d
frame_or d (measured.Reading f fs) = f
frame_or d (measured.Holding k a fs) = d

pub closing_proper : (c : Class) (input : List Sym) (f : measured.Frame) (fs : List measured.Frame) (ys : List Sym) (k : Kind) (m : List Item)
    → Proper input → Reached c input (measured.Reading f fs) ys → closes f.kind f.items k m ≡ true → rows.has_kids f.kids ≡ true → IfSome f.kids.trees (λ ts. IsProper (node f.kind f.word [] ts))
closing_proper c input f fs ys k m clean r ends some = by_state r.state r.run r.seen
  where
    by_state : (st : State Plain) → exec c r.count Opening input ≡ Go st ys → measured.Reading f fs ≡ state_kept st → IfSome f.kids.trees (λ ts. IsProper (node f.kind f.word [] ts))
    by_state Opening run e = cc
    by_state (Reading g gs) run e =
        let same : f ≡ frame_kept g = ap (frame_or f) e in
        let ends_too : closes g.kind g.items k m ≡ true = ap (λ (h : measured.Frame). closes h.kind h.items k m) (sym same) ∙ ends in
        let some_too : rows.has_kids (row_of g.kids) ≡ true = ap (λ (h : measured.Frame). rows.has_kids h.kids) (sym same) ∙ some in
        let good = closing_good c input g gs r.count ys k m clean run ends_too some_too in
        rw same (by_trees g.kind g.word (row_of g.kids).trees (make_plain g.kind g.word g.kids) good (sym (ap (λ (x : Cut). x.tree) (made-row_of g.kind g.word g.kids))))
    by_state (Holding j t gs) run e = cc
