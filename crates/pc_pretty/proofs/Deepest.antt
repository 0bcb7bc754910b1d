-- Looking for the deepest node kid by kid.
use Rattle.std.proofs.Common.{◌≡◌, ℕ, ◌+◌, ◌-◌, ◌<◌, ◌≤◌, zero, suc, Bool, true, false, List, [], ◌∷◌, ◌++◌, take, length, get_or, Option, Some, None, if◌then◌else◌, nat_lt, inl, inr, refl, ap, sym, subst, ◌∙◌, append_assoc, append-nil, length-append, add-one, sum_by, arith}
use Rattle.std.specs.Prelude.{slice_get, option_and_then, unwrap_or, IsSome, IsTrue, ◌⊎◌}
use Rattle.std.specs.Option.{option_map_or}
use Rattle.std.proofs.lemmas.Bool.{cases_order}
use Rattle.std.proofs.lemmas.Option.{slice_get_within, slice_get-get_or, get_or_from_slice_get}
use Rattle.pc_syntax.specs.Plain.{Plain, kids_of}
use Rattle.pc_syntax.specs.Parts.{kid_at}
use Rattle.pc_syntax.specs.Places.{at}
use Rattle.pc_syntax.specs.WellFormed.{IsWellFormed, size_of}
use Rattle.pc_lex.specs.declared.symbol.Span.{Span}
use Rattle.pc_pretty.specs.Spans.{span_at}
use Rattle.pc_pretty.specs.Preorder.{text_spans, nodes_before}
use Rattle.pc_pretty.specs.Innermost.{HoldsAt, Precedes, IsInnermost, IsInnermostOf, IsBelow, FindsInnermost, longer}
use Rattle.pc_pretty.proofs.Stepping.{at-append, nodes_before-append}
use Rattle.pc_pretty.proofs.PathSpans.{text_spans-at}
use Rattle.pc_pretty.proofs.Nesting.{holds-above, holds-there}

-- the node with the path is below one of so many kids
abbrev pub InKids : List ℕ → ℕ → List ℕ → Type 0
InKids path n other = (j : ℕ) × (rest : List ℕ) × (j < n) × (other ≡ path ++ (suc j ∷ rest))

-- what was found below so many kids
abbrev pub Best : Plain → Span → List ℕ → ℕ → Option (List ℕ) → Type 0
Best t span path n None = (other : List ℕ) → InKids path n other → ¬ HoldsAt t span other
Best t span path n (Some best) = IsInnermostOf t span (InKids path n) best

pub record Searched (t : Plain) (span : Span) (path : List ℕ) (node : Plain) (n : ℕ) (best : Option (List ℕ)) (place : ℕ) : Type 0 where
  pub best_is : Best t span path n best
  pub place_is : place ≡ nodes_before path t + (1 + sum_by size_of (take n (kids_of node)))

-- no path stands before itself, nor a path below a kid before one below an earlier kid
not_before_self : (p : List ℕ) → ¬ Precedes p p
not_before_self [] h = h
not_before_self (i ∷ is) (inl less) = omega (arith, less)
not_before_self (i ∷ is) (inr same) = not_before_self is same.1

not_before_earlier : (path r s : List ℕ) (i j : ℕ) → j < i → ¬ Precedes (path ++ (suc i ∷ r)) (path ++ (suc j ∷ s))
not_before_earlier [] r s i j l (inl less) = omega (arith, l, less)
not_before_earlier [] r s i j l (inr same) = omega (arith, l, same.0)
not_before_earlier (k ∷ path) r s i j l (inl less) = omega (arith, less)
not_before_earlier (k ∷ path) r s i j l (inr same) = not_before_earlier path r s i j l same.1

abbrev kid_path : List ℕ → ℕ → List ℕ
kid_path path i = path ++ ((i + 1) ∷ [])

-- a path below a kid
below_kid : (path rest : List ℕ) (i : ℕ) → kid_path path i ++ rest ≡ path ++ (suc i ∷ rest)
below_kid path rest i = append_assoc path ((i + 1) ∷ []) rest ∙ ap (λ n. path ++ (n ∷ rest)) (add-one i)

split : (path other : List ℕ) (i : ℕ) → InKids path (i + 1) other → InKids path i other ⊎ IsBelow (kid_path path i) other
split path other i h = elim (cases_order h.0 i) [
  | inl same ↦ inr (h.1, h.3 ∙ ap (λ n. path ++ (suc n ∷ h.1)) same ∙ sym (below_kid path h.1 i))
  | inr order ↦ elim order [
    | inl less ↦ inl (h.0, h.1, less, h.3)
    | inr more ↦ absurd (omega (arith, more, h.2))
  ]
]

wider : (path other : List ℕ) (i : ℕ) → InKids path i other → InKids path (i + 1) other
wider path other i h = (h.0, h.1, omega (arith, h.2), h.3)

in_kid : (path other : List ℕ) (i : ℕ) → IsBelow (kid_path path i) other → InKids path (i + 1) other
in_kid path other i h = (i, h.0, omega arith, h.1 ∙ below_kid path h.0 i)

nat_lt-true : (m n : ℕ) → nat_lt m n ≡ true → m < n
nat_lt-true m n e = grind (arith, e)

nat_lt-false : (m n : ℕ) → nat_lt m n ≡ false → n ≤ m
nat_lt-false m n e = grind (arith, e)

module _ (t : Plain) (span : Span) (formed : IsWellFormed t) (path : List ℕ) where
  not_below : (i : ℕ) (other : List ℕ) → ¬ HoldsAt t span (kid_path path i) → IsBelow (kid_path path i) other → ¬ HoldsAt t span other
  not_below i other misses below held = misses (holds-above t span (kid_path path i) below.0 formed (subst (HoldsAt t span) below.1 held))

  -- a kid that doesn't hold the span changes nothing
  pub best_skip : (i : ℕ) (best : Option (List ℕ)) → ¬ HoldsAt t span (kid_path path i) → Best t span path i best → Best t span path (i + 1) best
  best_skip i None misses h = λ other inside held. elim (split path other i inside) [
    | inl old ↦ h other old held
    | inr below ↦ not_below i other misses below held
  ]
  best_skip i (Some best) misses h = record {
    member = wider path best i h.member;
    holds = h.holds;
    deepest = λ other inside held. elim (split path other i inside) [
      | inl old ↦ h.deepest other old held
      | inr below ↦ absurd (not_below i other misses below held)
    ];
    first = λ other inside held size. elim (split path other i inside) [
      | inl old ↦ h.first other old held size
      | inr below ↦ absurd (not_below i other misses below held)
    ];
  }

  -- the longer one of what was found before and below a kid
  best_choice : (i : ℕ) (best found : List ℕ) (b : Bool) → nat_lt (length best) (length found) ≡ b → IsInnermostOf t span (InKids path i) best → IsInnermostOf t span (IsBelow (kid_path path i)) found →
      IsInnermostOf t span (InKids path (i + 1)) (if b then found else best)
  best_choice i best found true e h g = record {
    member = in_kid path found i g.member;
    holds = g.holds;
    deepest = λ other inside held. elim (split path other i inside) [
      | inl old ↦ omega (arith, h.deepest other old held, nat_lt-true (length best) (length found) e)
      | inr below ↦ g.deepest other below held
    ];
    first = λ other inside held size. elim (split path other i inside) [
      | inl old ↦ absurd (omega (arith, h.deepest other old held, nat_lt-true (length best) (length found) e, size))
      | inr below ↦ g.first other below held size
    ];
  }
  best_choice i best found false e h g = record {
    member = wider path best i h.member;
    holds = h.holds;
    deepest = λ other inside held. elim (split path other i inside) [
      | inl old ↦ h.deepest other old held
      | inr below ↦ omega (arith, g.deepest other below held, nat_lt-false (length best) (length found) e)
    ];
    first = λ other inside held size before. elim (split path other i inside) [
      | inl old ↦ h.first other old held size before
      | inr below ↦
          not_before_earlier path below.0 h.member.1 i h.member.0 h.member.2
          (subst (λ b. Precedes (path ++ (suc i ∷ below.0)) b) h.member.3 (subst (λ o. Precedes o best) (below.1 ∙ below_kid path below.0 i) before))
    ];
  }

  pub best_found : (i : ℕ) (best : Option (List ℕ)) (found : List ℕ) → Best t span path i best → IsInnermostOf t span (IsBelow (kid_path path i)) found → Best t span path (i + 1) (Some (longer best found))
  best_found i None found h g = record {
    member = in_kid path found i g.member;
    holds = g.holds;
    deepest = λ other inside held. elim (split path other i inside) [
      | inl old ↦ absurd (h other old held)
      | inr below ↦ g.deepest other below held
    ];
    first = λ other inside held size. elim (split path other i inside) [
      | inl old ↦ absurd (h other old held)
      | inr below ↦ g.first other below held size
    ];
  }
  best_found i (Some best) found h g = best_choice i best found (nat_lt (length best) (length found)) refl h g

  module _ (node : Plain) (there : at path t ≡ Some node) where
    -- a node below is the node itself or below a kid
    below_cases : (other : List ℕ) → IsBelow path other → HoldsAt t span other → (other ≡ path) ⊎ InKids path (length (kids_of node)) other
    below_cases other below held =
        let found : (u : Plain) × (at other t ≡ Some u) = holds-there t span other held in
        go below.0 below.1 found.0 (sym (at-append path below.0 t ∙ ap (option_and_then (at below.0)) there) ∙ ap (λ p. at p t) (sym below.1) ∙ found.1)
      where
        inside : (j : ℕ) (r : List ℕ) (u : Plain) (o : Option Plain) → slice_get (kids_of node) j ≡ o → option_and_then (at r) o ≡ Some u → j < length (kids_of node)
        inside j r u None f g = cc
        inside j r u (Some k) f g = slice_get_within (kids_of node) j k f

        go : (rest : List ℕ) → other ≡ path ++ rest → (u : Plain) → at rest node ≡ Some u → (other ≡ path) ⊎ InKids path (length (kids_of node)) other
        go [] e u f = inl (e ∙ append-nil path)
        go (zero ∷ r) e u f = cc
        go (suc j ∷ r) e u f = inr (j, r, inside j r u (slice_get (kids_of node) j) refl f, e)

    -- when all kids are searched
    pub best_all : (best : Option (List ℕ)) → HoldsAt t span path → Best t span path (length (kids_of node)) best → IsInnermostOf t span (IsBelow path) (unwrap_or best path)
    best_all None held h = record {
      member = ([], sym (append-nil path));
      holds = held;
      deepest = λ other inside holds. elim (below_cases other inside holds) [
        | inl same ↦ omega (arith, ap length same)
        | inr below ↦ absurd (h other below holds)
      ];
      first = λ other inside holds size before. elim (below_cases other inside holds) [
        | inl same ↦ not_before_self path (subst (λ o. Precedes o path) same before)
        | inr below ↦ h other below holds
      ];
    }
    best_all (Some best) held h =
        let long : length best ≡ length path + length (suc h.member.0 ∷ h.member.1) = ap length h.member.3 ∙ length-append path (suc h.member.0 ∷ h.member.1) in
        record {
          member = (suc h.member.0 ∷ h.member.1, h.member.3);
          holds = h.holds;
          deepest = λ other inside holds. elim (below_cases other inside holds) [
            | inl same ↦ omega (arith, ap length same, long)
            | inr below ↦ h.deepest other below holds
          ];
          first = λ other inside holds size before. elim (below_cases other inside holds) [
            | inl same ↦ omega (arith, ap length same, long, size)
            | inr below ↦ h.first other below holds size before
          ];
        }

    -- a kid by its path and its place
    kid_is : (i : ℕ) (k : Plain) → i < length (kids_of node) → k ≡ get_or (kids_of node) i k → kid_at node (i + 1) ≡ Some k
    kid_is i k l e = ap (kid_at node) (add-one i) ∙ slice_get-get_or (kids_of node) i k l ∙ ap Some (sym e)

    pub kid_there : (i : ℕ) (k : Plain) → i < length (kids_of node) → k ≡ get_or (kids_of node) i k → at (kid_path path i) t ≡ Some k
    kid_there i k l e = at-append path ((i + 1) ∷ []) t ∙ ap (option_and_then (at ((i + 1) ∷ []))) there ∙ ap (option_and_then (at [])) (kid_is i k l e)

    pub kid_place : (i : ℕ) (k : Plain) → i < length (kids_of node) → k ≡ get_or (kids_of node) i k → nodes_before (kid_path path i) t ≡ nodes_before path t + (1 + sum_by size_of (take i (kids_of node)))
    kid_place i k l e =
        let none : option_map_or (nodes_before []) (kid_at node (i + 1)) 0 ≡ 0 = ap (λ o. option_map_or (nodes_before []) o 0) (kid_is i k l e) in
        let less : sum_by size_of (take (i + 1 - 1) (kids_of node)) ≡ sum_by size_of (take i (kids_of node)) = ap (λ n. sum_by size_of (take n (kids_of node))) (omega arith) in
        omega (arith, nodes_before-append path ((i + 1) ∷ []) t node there, none, less)

-- at the root
pub innermost_at_root : (t : Plain) (span : Span) (path : List ℕ) → IsInnermostOf t span (IsBelow []) path → IsInnermost t span path
innermost_at_root t span path h = record {
  holds = h.holds;
  deepest = λ other held. h.deepest other (other, refl) held;
  first = λ other held size. h.first other (other, refl) held size;
}

pub innermost_nowhere : (t : Plain) (span : Span) → IsWellFormed t → ¬ HoldsAt t span [] → FindsInnermost t span None
innermost_nowhere t span formed misses path held = misses (holds-above t span [] path formed held)

-- the span that is kept at the place of a node
pub kept_span : (t u : Plain) (path : List ℕ) (spans : List (Option Span)) (place : ℕ) (o : Option Span) → IsWellFormed t → t ≡ u → spans ≡ text_spans t → o ≡ get_or spans place o → IsSome (at path u) →
    place ≡ nodes_before path u → o ≡ span_at path u
kept_span t u path spans place o h same kept is there at_place = go (at path u) refl there
  where
    go : (a : Option Plain) → at path u ≡ a → IsSome a → o ≡ span_at path u
    go None f g = cc
    go (Some v) f g =
        is ∙ ap (λ xs. get_or xs place o) (kept ∙ ap text_spans same) ∙
        get_or_from_slice_get (text_spans u) place (span_at path u) o (ap (slice_get (text_spans u)) at_place ∙ text_spans-at path u v (subst IsWellFormed same h) f)

pub is_there : {X : Type 0} (o : Option X) (x : X) → o ≡ Some x → IsSome o
is_there o x e = rw e refl

pub misses_false : (b : Bool) → b ≡ false → ¬ IsTrue b
misses_false b e h = cc
