-- Over all routines of a program: around each what names mean is carried and good.
use Rattle.std.proofs.Common.{◌≡◌, ℕ, suc, true, ◌||◌, not, if◌then◌else◌, List, [], ◌∷◌, ◌++◌, Option, refl, sym, ◌∙◌, ap, subst, inl, inr}
use Rattle.std.proofs.lemmas.Bool.{and_parts}
use Rattle.pc_syntax.specs.declared.kind.Kind.{Kind}
use Rattle.pc_syntax.specs.declared.kind.Kind.TheVariants as kind
use Rattle.pc_syntax.specs.declared.class.Class.TheVariants as class
use Rattle.pc_syntax.specs.Classes.{has}
use Rattle.pc_syntax.specs.Fits.{takes_from}
use Rattle.pc_syntax.specs.Plain.{Forest, Nil, Cons, Plain, kinds}
use Rattle.pc_syntax.specs.WellFormed.{WellFormed}
use Rattle.pc_scope.specs.Blocks.{block_kids}
use Rattle.pc_scope.specs.Headings.{is_routine_kind}
use Rattle.pc_rules.specs.Attributes.{Attributes, first}
use Rattle.pc_rules.specs.Decorated.{decorate}
use Rattle.pc_rules.specs.Meanings.{Class, Found, Local, find}
use Rattle.pc_rules.specs.OwnBlock.{own, bare_heading}
use Rattle.pc_rules.specs.Places.{beside}
use Rattle.pc_rules.specs.RoutineList.{Forwarded, routine_of, key_of, forwarded_by, part_of, routines_in, routines_below}
use Rattle.pc_rules.specs.Routines.{Routine, bare, start_of}
use Rattle.pc_needs.specs.Answers.{has_block}
use Rattle.pc_needs.specs.Unaffected.{IsOneOf}
use Rattle.pc_needs.proofs.BodyKinds.{either-way}
use Rattle.pc_needs.proofs.Lists.{Each, each-append}
use Rattle.pc_needs.proofs.PlaceLemmas.{of-part, one-front, one-back, block-heading}
use Rattle.pc_needs.proofs.UniqueRoutines.{no-list, list-takes}
use Rattle.pc_pointers.specs.Good.{Targets, IsGoodFound}
use Rattle.pc_carrying.specs.Carrying.{IsCarriedName}
use Rattle.pc_carrying.specs.ParameterLaws.{inside-law}
use Rattle.pc_carrying.specs.Parts.{IsGoodBehind, is_routine}
use Rattle.pc_carrying.specs.RoutineLaws.{routine-behind}
use Rattle.pc_program_laws.specs.Routines.{behind_first, routines_start}
use Rattle.pc_program_laws.proofs.RoutineLemmas.{routines-law}
use Rattle.pc_targets.specs.Program.{hiding}
use Rattle.pc_targets.specs.Blocks.{MeansGood, IsGoodRoutine}
use Rattle.pc_targets.proofs.ChainLemmas.{Says, Confines}
use Rattle.pc_targets.proofs.HidingLemmas.{hidden-found, hidden-behind}
use Rattle.pc_targets.proofs.RoutineLemmas.{routine-good}
use Rattle.pc_targets.proofs.SignatureLemmas.{AllGiven, given-behind}
use Rattle.pc_targets.proofs.BlockPlaceLemmas.{fourfold, block-place, first-names, start-names}

-- the routines of a list are among more
abbrev pub Among : List Routine → List Routine → Type 0
Among rs us = (z : Routine) → IsOneOf rs z → IsOneOf us z

-- the targets say of each routine with a block what it does; and what is declared later around one is no type in its block
abbrev pub SaysAll : Targets → List Routine → Type 0
SaysAll targets us = (z : Routine) → IsOneOf us z → has_block z.heading ≡ true → Says targets us z × Confines z (bare z.means)

-- ---- places

routine-so : (k : Kind) → (is_routine k || not (has class.Routine k)) ≡ true
routine-so (kind.Hole s) = refl
routine-so _ = refl

-- what names mean at a good place of the block, where nothing is said of routines
means-good : (targets : Targets) (names : List (List ℕ × Class)) (m : List ℕ → Found) (l : Local) → l.names ≡ names → IsGoodBehind targets (hiding names (bare m)) l → MeansGood targets (find (bare m) l)
means-good targets names m l e g n =
    let same = hidden-found names (bare m) l n e in
    subst (λ (f : Found). IsCarriedName targets [] n f × IsGoodFound targets f) same (inside-law.found targets [] (hiding names (bare m)) l g.place n, g.good n)

-- behind a routine or a hole in a list of routines
element-behind : (targets : Targets) (names : List (List ℕ × Class)) (m : List ℕ → Found) (l : Local) (k : Kind) (w : List ℕ) (ns : List (List ℕ)) (ks : Forest) → has class.Routine k ≡ true → l.names ≡ names →
    IsGoodBehind targets (hiding names (bare m)) l → IsGoodBehind targets (hiding names (bare m)) (behind_first m l k w ns ks)
unfolding own
element-behind targets names m l k w ns ks h e g =
    let t : Plain = record { kind = k; word = w; notes = ns; kids = if is_routine_kind k then bare_heading ks else own ks } in
    subst (IsGoodBehind targets (hiding names (bare m))) (hidden-behind names (bare m) l t e)
    (routine-behind targets (hiding names (bare m)) l t (either-way (is_routine k) (has class.Routine k) (routine-so k) h) (λ n. tt) g)

-- ---- the walk

mutual
  unfolding routines_in

  walk-list : (targets : Targets) (us : List Routine) (names : List (List ℕ × Class)) (m : List ℕ → Found) (l : Local) (fs : List Forwarded) (p : List ℕ) (key : Option (List (List ℕ))) (f : Forest) (n : ℕ) →
      WellFormed f → takes_from kind.Routines n (kinds f) ≡ true → l.names ≡ names → IsGoodBehind targets (hiding names (bare m)) l → AllGiven targets fs → SaysAll targets us →
      Among (routines_in m l fs p key f) us → Each (IsGoodRoutine targets) (routines_in m l fs p key f)
  walk-list targets us names m l fs p key Nil n w t e g given says = λ among. tt
  walk-list targets us names m l fs p key (Cons k v ns ks ts) n w t e g given says =
      let a : Attributes = first (decorate (bare m) l (own (Cons k v ns ks Nil))) in
      let after : Local = beside l k a in
      let r : Routine = routine_of (find (bare m) after) l fs (p ++ l.kid ∷ []) key k ks in
      let takes = and_parts (has class.Routine k) (takes_from kind.Routines (suc n) (kinds ts)) t in
      let names_after = first-names m l k v ns ks ∙ e in
      let good = element-behind targets names m l k v ns ks takes.0 e g in
      let means = means-good targets names m after names_after good in
      of-part (λ rs. Among rs us → Each (IsGoodRoutine targets) rs) (part_of k) _ _ _
      (λ part among.
      let here = routine-good targets (find (bare m) after) l fs (p ++ l.kid ∷ []) key k v ks part w.0 w.3 means given in
      each-append (IsGoodRoutine targets) (r ∷ routines_below r 1 ks) _ (
        here,
        walk-below targets us r 1 ks w.3 (among r (inl refl)) (λ h. block-heading ks ∙ h) refl here says (λ z h. among z (one-front (r ∷ routines_below r 1 ks) _ z (inr h))),
      )
      (walk-list targets us names m after (forwarded_by l r fs) p key ts (suc n) w.4 takes.1 names_after good (given-behind targets l r fs here.parameters given) says
      (λ z h. among z (one-back (r ∷ routines_below r 1 ks) _ z h))))
      (λ part. absurd (no-list k takes.0 part))
      (λ part among. walk-list targets us names m after fs p key ts (suc n) w.4 takes.1 names_after good given says among)

  pub walk-below : (targets : Targets) (us : List Routine) (r : Routine) (i : ℕ) (f : Forest) → WellFormed f → IsOneOf us r → (has_block f ≡ true → has_block r.heading ≡ true) → r.block ≡ own (block_kids f) →
      IsGoodRoutine targets r → SaysAll targets us → Among (routines_below r i f) us → Each (IsGoodRoutine targets) (routines_below r i f)
  walk-below targets us r i Nil w one b is good says = λ among. tt
  walk-below targets us r i (Cons kind.Block v ns (Cons a v1 n1 k1 (Cons c v2 n2 k2 (Cons d v3 n3 k3 (Cons j v4 n4 k4 rest)))) ts) w one b is good says =
      let first : Plain = record { kind = a; word = v1; notes = n1; kids = k1 } in
      let second : Plain = record { kind = c; word = v2; notes = n2; kids = k2 } in
      let third : Plain = record { kind = d; word = v3; notes = n3; kids = k3 } in
      let fourth : Plain = record { kind = j; word = v4; notes = n4; kids = k4 } in
      let f = fourfold first second third fourth rest in
      let at = block-place targets us r v first second third fourth rest w.0 w.3 is (says r one (b refl)) good in
      let same = routines-law.block r.means (start_of r) [] (r.place ++ i ∷ []) (key_of r.owner) v f w.0 in
      let takes = list-takes j v4 k4 (ap part_of at.0) w.3.4.4.4.0 in
      subst (λ (rs : List Routine). Among rs us → Each (IsGoodRoutine targets) rs) (sym same)
      (walk-list targets us (start_of r).names r.means (routines_start r.means (start_of r) f) [] _ (key_of r.owner) k4 0 w.3.4.4.4.3 takes (start-names r.means (start_of r) first second third fourth rest) at.1 tt says)
  walk-below targets us r i (Cons kind.Block v ns ks ts) w one b is good says =
      subst (λ (rs : List Routine). Among rs us → Each (IsGoodRoutine targets) rs) (sym (routines-law.block r.means (start_of r) [] (r.place ++ i ∷ []) (key_of r.owner) v ks w.0)) (λ among. tt)
  walk-below targets us r i (Cons k v ns ks ts) w one b is good says = walk-below targets us r (suc i) ts w.4 one b is good says
