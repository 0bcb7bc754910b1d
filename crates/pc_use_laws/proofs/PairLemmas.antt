-- The text of the view `uses` by pairs of a used name and its declaration.
use Rattle.std.specs.Prelude.{ℕ, suc, ◌≡◌, Bool, true, false, not, ◌&&◌, if◌then◌else◌, List, [], ◌∷◌, ◌++◌, codes, Option, Some, None, map}
use Rattle.std.specs.Option.{option_and_then, option_or, is_some}
use Rattle.std.specs.List.{flat_map}
use Rattle.std.specs.Str.{bytes_eq}
use Rattle.std.proofs.Common.{refl, ap, sym, subst, ◌∙◌}
use Rattle.std.proofs.lemmas.Slice.Eq.{bytes_eq-Decides}
use Rattle.pc_syntax.specs.declared.kind.Kind.{Kind}
use Rattle.pc_syntax.specs.Places.{at}
use Rattle.pc_syntax.specs.Plain.{Forest, Nil, Cons, Plain}
use Rattle.pc_syntax.specs.WellFormed.{IsProper}
use Rattle.pc_syntax.specs.Words.{lowered}
use Rattle.pc_types.specs.Sameness.{same_owner}
use Rattle.pc_scope.specs.Declarations.{Declared}
use Rattle.pc_scope.specs.Lookup.{lookup}
use Rattle.pc_decl.specs.Annotated.{Annotation, Annotated, annotated}
use Rattle.pc_decl.specs.Declared.{names_of, routines_with_key}
use Rattle.pc_decl.specs.Meant.{open_field, place_of, meant_by, meant_of, meant_in}
use Rattle.pc_decl.specs.Nodes.{above, kid_number, kind_at}
use Rattle.pc_decl.specs.Shown.{owner_text, path_text}
use Rattle.pc_decl.specs.Uses.{Use, LookedUp, OfField, Unused, use_of, opened_at}
use Rattle.pc_decl.specs.UsesText.{place_used, used_among, used_names, path_if_meant, uses_line, uses_lines, routine_uses, uses_text}
use Rattle.pc_needs.proofs.Lists.{Each, each-append}
use Rattle.pc_decl_laws.specs.OwnTypes.{IsAmong}
use Rattle.pc_decl_laws.proofs.LeadLemmas.{tree_of}
use Rattle.pc_decl_laws.proofs.NameLemmas.{above-kid}
use Rattle.pc_use_laws.specs.FieldPlaces.{FindsField}
use Rattle.pc_use_laws.specs.Pairs.{declaration_meant, pair_with, pair_at, use_pairs, path_if_paired, pairs_line, pairs_lines, routine_pairs, PairsLaw}
use Rattle.pc_use_laws.proofs.FieldLemmas.{open-field-law, declared-place-law}
use Rattle.pc_use_laws.proofs.ListLemmas.{same-texts, left-among, same-found, append-none, flat-append}
use Rattle.pc_use_laws.proofs.SitLemmas.{Sits, sits-kids, kind-of}

-- ---- the names that are looked up

-- a node stands at the place, and is a name that is looked up there
pub record IsLookedUp (t : Plain) (q : List ℕ) : Type 0 where
  pub node : Plain
  pub here : at q t ≡ Some node
  pub used : use_of node.kind (kind_at t (above q)) (kid_number q) ≡ LookedUp

last-number : (p : List ℕ) (i : ℕ) → kid_number (p ++ i ∷ []) ≡ i
last-number [] i = refl
last-number (a ∷ []) i = refl
last-number (a ∷ b ∷ p) i = last-number (b ∷ p) i

used-there : (t : Plain) (q : List ℕ) (x : Plain) (u : Use) → at q t ≡ Some x → use_of x.kind (kind_at t (above q)) (kid_number q) ≡ u → Each (IsLookedUp t) (place_used u q)
used-there t q x LookedUp e f = (record { node = x; here = e; used = f }, tt)
used-there t q x OfField e f = tt
used-there t q x Unused e f = tt

looked-up : (t : Plain) (p : List ℕ) (outer : Kind) (i : ℕ) (f : Forest) → kind_at t p ≡ outer → Sits t p i f → Each (IsLookedUp t) (used_among p outer i f)
looked-up t p outer i Nil e sits = tt
looked-up t p outer i (Cons k w ns ks ts) e sits =
    let q : List ℕ = p ++ i ∷ [] in
    each-append (IsLookedUp t) (place_used (use_of k outer i) q ++ used_among q k 1 ks) (used_among p outer (suc i) ts)
    (each-append (IsLookedUp t) (place_used (use_of k outer i) q) (used_among q k 1 ks)
    (used-there t q (tree_of k w ns ks) (use_of k outer i) sits.0
    (ap (λ (x : List ℕ). use_of k (kind_at t x) (kid_number q)) (above-kid p i) ∙ (λ j. use_of k (e j) (last-number p i j))))
    (looked-up t q k 1 ks (kind-of t q (tree_of k w ns ks) sits.0) (sits-kids t q (tree_of k w ns ks) sits.0)))
    (looked-up t p outer (suc i) ts e sits.1)

-- ---- one of them, in the line of a declared name

-- a field's name is not the declared one
abbrev pub IsApart : List ℕ → Option (List ℕ) → Type 0
IsApart d None = Unit {0}
IsApart d (Some f) = d ≡ f → ⊥

not-equal : (a b : List ℕ) → (a ≡ b → ⊥) → bytes_eq a b ≡ false
not-equal a b h = by (bytes_eq a b) refl where
  by : (z : Bool) → bytes_eq a b ≡ z → z ≡ false
  by true e = absurd (h ((bytes_eq-Decides a b).0 e))
  by false e = refl

by-lookup : (d q : List ℕ) (f m : Option (List ℕ)) → IsApart d f →
    path_if_meant d (record { place = q; meaning = option_or f m }) ≡ flat_map (path_if_paired d) (pair_with q (if is_some f then None else m))
by-lookup d q None None h = refl
by-lookup d q None (Some x) h = append-none (if bytes_eq d x then codes " " ++ path_text q else [])
by-lookup d q (Some x) m h = ap (λ (b : Bool). if b then codes " " ++ path_text q else []) (not-equal d x h)

one-pair : (p : Annotated) (d q : List ℕ) → IsLookedUp p.tree q → ((n : List ℕ) (qs : List (List ℕ)) → IsApart d (open_field p n qs)) →
    path_if_meant d (record { place = q; meaning = meant_in p q }) ≡ flat_map (path_if_paired d) (pair_at p q)
unfolding meant_in
one-pair p d q h apart =
    let n : List ℕ = lowered h.node.word in
    ap (λ (o : Option Plain). path_if_meant d (record { place = q; meaning = option_and_then (meant_of p q) o })) h.here
    ∙ ap (λ (u : Use). path_if_meant d (record { place = q; meaning = meant_by p q n u })) h.used
    ∙ by-lookup d q (open_field p n (opened_at p.tree q)) (place_of (lookup p.tree n q)) (apart n (opened_at p.tree q))
    ∙ ap (λ (o : Option Plain). flat_map (path_if_paired d) (pair_with q (option_and_then (λ (x : Plain). declaration_meant p q (lowered x.word)) o))) (sym h.here)

all-pairs : (p : Annotated) (d : List ℕ) (qs : List (List ℕ)) → Each (IsLookedUp p.tree) qs → ((n : List ℕ) (qs : List (List ℕ)) → IsApart d (open_field p n qs)) →
    flat_map (path_if_meant d) (map (λ (q : List ℕ). record { place = q; meaning = meant_in p q }) qs) ≡ flat_map (path_if_paired d) (flat_map (pair_at p) qs)
all-pairs p d [] h apart = refl
all-pairs p d (q ∷ qs) h apart =
    (λ i. one-pair p d q h.0 apart i ++ all-pairs p d qs h.1 apart i) ∙ sym (flat-append (path_if_paired d) (pair_at p q) (flat_map (pair_at p) qs))

-- ---- lines

apart-from : (t : Plain) (d : List ℕ) (o : Option (List ℕ)) → FindsField t o → (FindsField t (Some d) → ⊥) → IsApart d o
apart-from t d None h g = tt
apart-from t d (Some f) h g = λ e. g (subst (λ (x : List ℕ). FindsField t (Some x)) (sym e) h)

names-paired : (t : Plain) (d : Declared) → IsProper t → (FindsField t (Some d.place) → ⊥) →
    flat_map (path_if_meant d.place) (used_names (annotated t)) ≡ flat_map (path_if_paired d.place) (use_pairs (annotated t))
unfolding annotated
names-paired t d proper g =
    all-pairs (annotated t) d.place (used_among [] t.kind 1 t.kids) (looked-up t [] t.kind 1 t.kids refl (sits-kids t [] t refl))
    (λ n qs. apart-from t d.place (open_field (annotated t) n qs) (open-field-law t n qs proper) g)

lines-paired : (t : Plain) (r : Annotation) (key : List ℕ) → IsProper t → IsAmong (annotated t).routines r →
    uses_lines t (used_names (annotated t)) key r ≡ pairs_lines t (use_pairs (annotated t)) key r
lines-paired t r key proper a =
    same-texts (uses_line (used_names (annotated t)) key) (pairs_line (use_pairs (annotated t)) key) (names_of t r.routine)
    (λ d i. ap (λ (x : List ℕ). key ++ codes " " ++ d.name ++ codes ":" ++ x ++ codes "\n") (names-paired t d proper (declared-place-law t r d proper a i)))

routine-paired : (t : Plain) (r : Annotation) → IsProper t → IsAmong (annotated t).routines r → routine_uses (annotated t) (used_names (annotated t)) r ≡ routine_pairs (annotated t) (use_pairs (annotated t)) r
unfolding annotated
routine-paired t r proper a =
    let key : List ℕ = owner_text r.routine.owner in
    λ i.
    lines-paired t r key proper a i
    ++ same-found (uses_lines t (used_names (annotated t)) key) (pairs_lines t (use_pairs (annotated t)) key) (λ (l : Annotation). l.routine.is_later && same_owner l.routine.owner r.routine.owner)
    (annotated t).routines (λ x b. lines-paired t x key proper b) i

pub pairs-law : PairsLaw
unfolding uses_text routines_with_key
pairs-law t proper =
    same-texts (routine_uses (annotated t) (used_names (annotated t))) (routine_pairs (annotated t) (use_pairs (annotated t))) (routines_with_key (annotated t))
    (λ r a. routine-paired t r proper (left-among (λ (x : Annotation). x.routine.has_key && not x.routine.is_later) (annotated t).routines r a))
