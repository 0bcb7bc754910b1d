-- What is known behind a routine of a block, as it is around the routine's own block and at the routines behind it.
use Rattle.std.proofs.Common.{Bool, List, None, Option, Some, [], ap, append-nil, bytes_eq, false, if◌then◌else◌, is_some, not, refl, subst, sym, true, ℕ, ◌&&◌, ◌++◌, ◌∙◌, ◌∷◌, ◌≡◌}
use Rattle.std.proofs.lemmas.Bool.{and_parts}
use Rattle.pc_rule_laws.specs.ClassedPlaces.{classed_at, with_class}
use Rattle.pc_rule_laws.specs.DeclaredNames.{Passing}
use Rattle.pc_rule_laws.specs.Matching.{Matches, one-head}
use Rattle.pc_rule_laws.specs.Orderly.{IsRoutineOrGap}
use Rattle.pc_rule_laws.specs.Roles.{DeclaresRoutine, Gap, Gathers, Role, behind-role, behind_by, class_by, defines-role, defines_by, is_routine_role, first_node, keys, one, places_by, role}
use Rattle.pc_rule_laws.specs.RoutineNames.{Waits, own-name}
use Rattle.pc_rule_laws.specs.Standing.{AllAre, Classed, Knows, Knows-all, Knows-moved, first_of, first_of-append, is_some-class, or_else, visible}
use Rattle.pc_rules.specs.Attributes.{Attributes, Marked, first}
use Rattle.pc_rules.specs.Places.{beside, inner}
use Rattle.pc_rules.specs.Declarations.{head_or, is_later_declaration}
use Rattle.pc_rules.specs.Decorated.{decorate, rule, seen}
use Rattle.pc_rules.specs.Meanings.{Class, Local, Meaning, Outside, define_all, entry_of}
use Rattle.pc_scope.specs.Declarations.{name_at}
use Rattle.pc_scope.specs.Headings.{Heading, any_pairs, first_name, heading_of, headings_in}
use Rattle.pc_syntax.specs.Plain.{Cons, Forest, Nil}
use Rattle.pc_syntax.specs.declared.kind.Kind.{Kind}

-- a Local knows the same of declarations with the same first one
pub Knows-same : (q n : List ℕ) (l : Local) (es fs : List Classed) → first_of es n ≡ first_of fs n → Knows q n l es → Knows q n l fs
Knows-same q n l es fs e h = record { passed = h.passed ∙ ap is_some e; known = h.known ∙ ap (visible q) e }

first-kept : (n q : List ℕ) (c : Class) (ks : Forest) (es : List Classed) → (bytes_eq (first_name ks) n ≡ true → is_some (first_of es n) ≡ true) →
    first_of es n ≡ first_of (es ++ with_class c (name_at None q ks)) n
first-kept n q c ks es f =
    by (first_of es n) (first_of (with_class c (name_at None q ks)) n) (λ e is. f (own-name n q c ks e is)) ∙ sym (first_of-append es (with_class c (name_at None q ks)) n) where
      by : (x y : Option Classed) → ((e : Classed) → y ≡ Some e → is_some x ≡ true) → x ≡ or_else x y
      by (Some d) y f = refl
      by None None f = refl
      by None (Some e) f = cc (f e refl)

-- one routine, or a hole, is passed: for a place where its name counts
routine-behind : (out : Outside) (q x : List ℕ) (b : ℕ) (bs : List ℕ) (k : Kind) (r : Role) (l inside next : Local) (ks ts : Forest) (ms : List (List ℕ × Meaning)) (ds : List (List ℕ × Class)) (es : List Classed) →
    IsRoutineOrGap r ks → keys ms ≡ defines_by r l (decorate out inside ks) → next.passed ≡ (behind_by r l ms).passed → next.known ≡ (behind_by r l ms).known →
    l.ahead ≡ heading_of k ks ∷ headings_in ts → Matches (b ∷ bs) ds es → Waits (b ∷ bs) l.waiting ds → Knows q (b ∷ bs) l es →
    AllAre true q (with_class (class_by r) (places_by r x ks) ++ (if is_routine_role r then [] else classed_at x 1 ks)) →
    Knows q (b ∷ bs) next (es ++ (with_class (class_by r) (places_by r x ks) ++ (if is_routine_role r then [] else classed_at x 1 ks)))
routine-behind out q x b bs k Gap l inside next Nil ts ms ds es h made p g ahead m w knows all =
    Knows-moved q (b ∷ bs) l next (es ++ []) p (ap (λ cs. entry_of (keys cs) (b ∷ bs)) g) (Knows-all q (b ∷ bs) l [] es [] knows refl all)
routine-behind out q x b bs k Gap l inside next (Cons j v os js us) ts ms ds es h made p g ahead m w knows all = absurd h
routine-behind out q x b bs k (DeclaresRoutine c) l inside next ks ts ms ds es h made p g ahead m w knows all =
    Knows-moved q n (define_all l ms) next (es ++ (own ++ [])) p (ap (λ cs. entry_of (keys cs) n) g)
    (subst (λ z. Knows q n (define_all l ms) (es ++ z)) (sym (append-nil own)) (by (is_later_declaration l) refl)) where
      n : List ℕ
      n = b ∷ bs

      own : List Classed
      own = with_class c (name_at None x ks)

      waiting : is_later_declaration l ≡ true → any_pairs (heading_of k ks) l.waiting ≡ true
      waiting e =
          (and_parts (not (heading_of k ks).is_forward) (any_pairs (heading_of k ks) l.waiting)
          (sym (ap (λ (z : Heading). not z.is_forward && any_pairs z l.waiting) (ap head_or ahead)) ∙ e)).1

      by : (later : Bool) → is_later_declaration l ≡ later → Knows q n (define_all l ms) (es ++ own)
      by false e =
          Knows-all q n l ms es own knows
          (ap (λ cs. entry_of cs n) (made ∙ ap (λ t. if t then [] else one c (first_node (decorate out inside ks))) e) ∙ one-head out inside n c None x ks h)
          (subst (AllAre true q) (append-nil own) all)
      by true e =
          Knows-same q n (define_all l ms) es (es ++ own)
          (first-kept n x c ks es (λ same. sym (is_some-class (first_of es n)) ∙ ap is_some (sym m) ∙ w (heading_of k ks) (waiting e) same))
          (Knows-same q n (define_all l ms) (es ++ []) es (ap (λ z. first_of z n) (append-nil es))
          (Knows-all q n l ms es [] knows (ap (λ cs. entry_of cs n) (made ∙ ap (λ t. if t then [] else one c (first_node (decorate out inside ks))) e)) tt))
routine-behind out q x b bs k Gathers l inside next ks ts ms ds es h made p g ahead m w knows all = absurd h
routine-behind out q x b bs k _ l inside next ks ts ms ds es h made p g ahead m w knows all = absurd h

-- Behind a routine of a list, at the places where its name counts: inside the routine's block, and at the routines behind it.
pub routine-known : (out : Outside) (q x : List ℕ) (b : ℕ) (bs : List ℕ) (l : Local) (k : Kind) (w : List ℕ) (ns : List (List ℕ)) (ks ts : Forest) (ds : List (List ℕ × Class)) (es : List Classed) →
    IsRoutineOrGap (role k) ks → Passing (b ∷ bs) (Cons k w ns ks ts) l ds es → Knows q (b ∷ bs) l es →
    AllAre true q (with_class (class_by (role k)) (places_by (role k) x ks) ++ (if is_routine_role (role k) then [] else classed_at x 1 ks)) →
    Knows q (b ∷ bs) (beside l k (first (decorate out l (Cons k w ns ks Nil))))
    (es ++ (with_class (class_by (role k)) (places_by (role k) x ks) ++ (if is_routine_role (role k) then [] else classed_at x 1 ks)))
unfolding decorate
routine-known out q x b bs l k w ns ks ts ds es h passing knows all =
    let m : Marked = decorate out (inner l k ks) ks in
    let a : Attributes = rule l k w (seen out l k w) m in
    routine-behind out q x b bs k (role k) l (inner l k ks) (beside l k a) ks ts a.defines ds es h (defines-role l k w (seen out l k w) m)
    (ap (λ (z : Local). z.passed) (behind-role l k a)) (ap (λ (z : Local). z.known) (behind-role l k a)) passing.ahead passing.matches passing.waits knows all
