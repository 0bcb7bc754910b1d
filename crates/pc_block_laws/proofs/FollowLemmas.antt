-- A routine, those inside it and those behind it: where two of them have one key, the one behind is a later declaration.
use Rattle.std.specs.Prelude.{ℕ, ◌≡◌, Bool, true, false, List, [], ◌∷◌, Option, Some, ◌++◌, ◌⊎◌}
use Rattle.std.proofs.Common.{refl, ap, sym, subst, ◌∙◌, true≢false, inl, inr}
use Rattle.pc_syntax.specs.declared.kind.Kind.{Kind}
use Rattle.pc_syntax.specs.declared.kind.Kind.TheVariants as kind
use Rattle.pc_syntax.specs.declared.class.Class.TheVariants as class
use Rattle.pc_syntax.specs.Classes.{has}
use Rattle.pc_syntax.specs.Plain.{Forest, Nil, Cons}
use Rattle.pc_syntax.specs.Words.{is_among}
use Rattle.pc_types.specs.Shapes.{Owner, Keyed}
use Rattle.pc_scope.specs.Headings.{ends_forward}
use Rattle.pc_rules.specs.Attributes.{Attributes}
use Rattle.pc_rules.specs.Declarations.{heading_here, is_later_declaration}
use Rattle.pc_rules.specs.Meanings.{Found, Local}
use Rattle.pc_rules.specs.OwnBlock.{own}
use Rattle.pc_rules.specs.Places.{beside}
use Rattle.pc_rules.specs.RoutineList.{Forwarded, routine_of, key_of, NoRoutine, part_of}
use Rattle.pc_rules.specs.Routines.{Routine}
use Rattle.pc_needs.proofs.KeyLemmas.{Key, key_or, is_keyed, owner_of-some, routine-key, ExtendsHeading}
use Rattle.pc_needs.proofs.Lists.{Each, each-append, each-map}
use Rattle.pc_needs.proofs.ParameterLemmas.{not-none}
use Rattle.pc_needs.proofs.UniqueLemmas.{key-longer, StandsUnder, IsFresh, HasName, IsPassed, HasCase, case-of, differ-behind}
use Rattle.pc_needs.proofs.WaitingLemmas.{Waits, forwarded-waits-for}

-- ---- what is shown

-- where the second has the first one's key it is a later declaration
abbrev pub Follows : Routine → Routine → Type 0
Follows x y = (k : Key) → x.owner ≡ Keyed k → y.owner ≡ Keyed k → y.is_later ≡ true

-- so it is of these in their order
abbrev pub AllFollow : List Routine → Type 0
AllFollow [] = Unit {0}
AllFollow (x ∷ xs) = Each (Follows x) xs × AllFollow xs

append-follow : (xs ys : List Routine) → AllFollow xs → AllFollow ys → Each (λ x. Each (Follows x) ys) xs → AllFollow (xs ++ ys)
append-follow [] ys h g d = g
append-follow (x ∷ xs) ys h g d = (each-append (Follows x) xs ys h.0 d.0, append-follow xs ys h.1 g d.1)

-- a heading that is a forward one where a routine is no later declaration
abbrev pub later_mark : Bool → Forest
later_mark true = Nil
later_mark false = Cons kind.Forward [] [] Nil Nil

-- a routine with that heading
abbrev pub marked : Routine → Routine
marked r = record r { heading = later_mark r.is_later }

-- its name doesn't stand before, or it is the later declaration of a forward heading that waits
abbrev pub IsNew : Local → List Forwarded → Option Key → Routine → Type 0
IsNew l fs key y = IsFresh l fs key (marked y)

later-so : (b : Bool) → (true ≡ ends_forward (later_mark b) → ⊥) → b ≡ true
later-so true h = refl
later-so false h = absurd (h refl)

-- a routine, and one behind those inside it
pub own-follows : (key : Option Key) (n : List ℕ) (ks : Forest) (r y : Routine) (after : Local) (fs : List Forwarded) → IsPassed after fs n ks r →
    ((k : Key) → r.owner ≡ Keyed k → (j : Key) × (key ≡ Some j) × (k ≡ j ++ n ∷ [])) → IsNew after fs key y → Follows r y
own-follows key n ks r y after fs h named new k p q =
    later-so y.is_later (λ e. differ-behind key n Nil x x (marked y) after fs passed name new k p q e) where
      x : Routine
      x = record r { heading = later_mark false }

      passed : IsPassed after fs n Nil (record r { heading = later_mark false })
      passed = record { passed = h.passed; waits = λ a b. refl; apart = λ b f. true≢false (sym b) }

      name : HasName key n Nil (record r { heading = later_mark false }) (record r { heading = later_mark false })
      name j a = let u = named j a in (u.0, [], u.1, u.2, ap is_keyed a, inl (refl, refl))

-- a routine inside, and one behind
pub inside-follows : (key : Option Key) (n : List ℕ) (ks : Forest) (r x y : Routine) (after : Local) (fs : List Forwarded) → IsPassed after fs n ks r →
    ((b : Bool) → HasName key n ks r (record x { heading = later_mark b })) → IsNew after fs key y → Follows x y
inside-follows key n ks r x y after fs h named new k p q =
    absurd (differ-behind key n ks r (record x { heading = later_mark y.is_later }) (marked y) after fs h (named y.is_later) new k p q refl)

-- ---- one routine in its list

module _ (m : List ℕ → Found) (l : Local) (fs : List Forwarded) (p : List ℕ) (key : Option Key) (k : Kind) (ks : Forest) (e : key ≡ key_of l.owner) (w : Each (ExtendsHeading key) fs) where
  pub own-new : IsNew l fs key (routine_of m l fs p key k ks)
  own-new j q =
      let x = routine-key m l fs p key k ks e w j q in
      (x.0, (heading_here l).name, [], x.1, x.2, which [] (case-of l fs j key (is_later_declaration l) _ _ _ (heading_here l).name (owner_of-some _ p j q))) where
        which : (rest : Key) → HasCase l fs j → (is_among l.passed (heading_here l).name ≡ false) ⊎ (Waits fs (heading_here l).name × (rest ≡ [] → ends_forward (later_mark (is_later_declaration l)) ≡ false))
        which rest (inl c) = inr (forwarded-waits-for (heading_here l) fs j c.1, (λ z. ap (λ (b : Bool). ends_forward (later_mark b)) c.0))
        which rest (inr c) = inl c.2

-- no routine inside another has its key
pub inside-other : (r b : Routine) → StandsUnder (key_of r.owner) b → Follows r b
inside-other r b h k p q =
    let y = h k q in
    let i : y.0 ≡ k = ap (key_or y.0) (sym y.3) ∙ ap (λ (o : Owner). key_or y.0 (key_of o)) p in
    absurd (key-longer y.0 y.1 y.2 (i ∙ y.4))

-- ---- all routines of a list, of a block, of a routine

-- a routine, those inside it, and those behind it
pub joined-follow : (key : Option Key) (l : Local) (fs : List Forwarded) (after : Local) (gs : List Forwarded) (r : Routine) (bs ts : List Routine) →
    ((y : Routine) → IsNew after gs key y → Follows r y) → Each (λ x. (y : Routine) → IsNew after gs key y → Follows x y) bs → Each (Follows r) bs → IsNew l fs key r → Each (IsNew l fs key) bs →
    AllFollow bs → ((y : Routine) → IsNew after gs key y → IsNew l fs key y) → AllFollow ts → Each (IsNew after gs key) ts →
    AllFollow ((r ∷ bs) ++ ts) × Each (IsNew l fs key) ((r ∷ bs) ++ ts)
joined-follow key l fs after gs r bs ts own names other new new-in follow-in lift follow-behind new-behind = (
  append-follow (r ∷ bs) ts (other, follow-in) follow-behind
      (each-map (λ x. (y : Routine) → IsNew after gs key y → Follows x y) (λ x. Each (Follows x) ts) (r ∷ bs)
      (λ x h. each-map (IsNew after gs key) (Follows x) ts h new-behind) (own, names)),
  each-append (IsNew l fs key) (r ∷ bs) ts (new, new-in) (each-map (IsNew after gs key) (IsNew l fs key) ts lift new-behind),
)

-- behind a hole in a list of routines the same names stand before
pub hole-passed : (l : Local) (k : Kind) (a : Attributes) → has class.Routine k ≡ true → part_of k ≡ NoRoutine → (beside l k a).passed ≡ l.passed
hole-passed l (kind.Hole s) a h p = refl
hole-passed l kind.Procedure a h p = absurd (not-none (sym p))
hole-passed l kind.Function a h p = absurd (not-none (sym p))
hole-passed l kind.Funbody a h p = absurd (not-none (sym p))
hole-passed l k a h p = absurd (true≢false (sym h))

pub new-same : (l m : Local) (fs : List Forwarded) (key : Option Key) (x : Routine) → l.passed ≡ m.passed → IsNew l fs key x → IsNew m fs key x
new-same l m fs key x e h k q =
    let y = h k q in
    (y.0, y.1, y.2, y.3, y.4, subst (λ (ns : List (List ℕ)). (is_among ns y.1 ≡ false) ⊎ (Waits fs y.1 × (y.2 ≡ [] → ends_forward (later_mark x.is_later) ≡ false))) e y.5)
