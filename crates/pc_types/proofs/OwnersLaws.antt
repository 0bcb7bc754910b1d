-- Owners by their numbers.
use Rattle.std.proofs.Common.{◌≡◌, Bor, MatchOption, ℕ, ◌≤◌, true, false, length, option_map, subst, List, [], ◌∷◌, Option, Some, None, slice_get, get_or, map, refl, sym, ◌∙◌, ap, arith}
use Rattle.std.proofs.lemmas.List.{get_or_past, length-map}
use Rattle.std.proofs.lemmas.Option.{get_or_from_slice_get, slice_get-map}
use Rattle.std.proofs.lemmas.Slice.Eq.{bytes_eq-Decides}
use Rattle.std.specs.Option.{option_copied}
use Rattle.std.specs.Str.{bytes_eq}
use Rattle.pc_types.specs.Shapes.{Owner, Keyed, Placed}
use Rattle.pc_types.specs.Sameness.{same_words, same_owner}
use Rattle.pc_types.specs.Table.{nobody}
use Rattle.pc_types.specs.Rows.{Kept, seen, seen_owner}
use Rattle.pc_types.specs.declared.form.OwnerId.{OwnerId}
use Rattle.pc_types.specs.declared.owner.Owner.{Owner as Written}
use Rattle.pc_types.specs.declared.owner.Owner.TheVariants as owner
use Rattle.pc_types.proofs.RowsLaws.{slice_get_none}

bytes-same : (w : List ℕ) → bytes_eq w w ≡ true
bytes-same w = (bytes_eq-Decides w w).1 refl

words-same : (ws : List (List ℕ)) → same_words ws ws ≡ true
words-same [] = refl
words-same (w ∷ ws) = rw (bytes-same w) (words-same ws)

-- an owner is itself
owner-same : (o : Owner) → same_owner o o ≡ true
owner-same (Keyed k) = words-same k
owner-same (Placed p) = bytes-same p

pub owner-at : (owners : List Owner) (i j : ℕ) → i ≡ j → true ≡ same_owner (get_or owners i nobody) (get_or owners j nobody)
owner-at owners i j e = sym (owner-same (get_or owners i nobody)) ∙ ap (λ (n : ℕ). same_owner (get_or owners i nobody) (get_or owners n nobody)) e

seen-got : (ws : List Written) (i : ℕ) (o : Written) → slice_get ws i ≡ Some o → slice_get (map seen_owner ws) i ≡ Some (seen_owner o)
seen-got ws i o e = slice_get-map seen_owner ws i ∙ ap (option_map seen_owner) e

-- names and no names differ
pub words-left : (ws : List (List ℕ)) → 1 ≤ length ws → false ≡ same_words ws []
words-left [] h = absurd (omega (arith, h))
words-left (w ∷ ws) h = refl

pub words-right : (ws : List (List ℕ)) → 1 ≤ length ws → false ≡ same_words [] ws
words-right [] h = absurd (omega (arith, h))
words-right (w ∷ ws) h = refl

-- a routine in a routine is not the program
pub keyed-left : (o : Written) (k ws : List (List ℕ)) → o ≡ owner.Keyed k → ws ≡ k → 1 ≤ length ws → false ≡ same_owner (seen_owner o) nobody
keyed-left o k ws e f h =
    subst (λ (v : Written). false ≡ same_owner (seen_owner v) nobody) (sym e) (subst (λ (v : List (List ℕ)). false ≡ same_words v []) f (words-left ws h))

-- the answer of a look-up
pub owner-match : (k : Kept) (i : OwnerId) (r : Option (Bor Written)) → option_copied r ≡ slice_get k.owners i.0 →
    MatchOption r (get_or (seen k).owners i.0 nobody ≡ nobody) (λ o. get_or (seen k).owners i.0 nobody ≡ seen_owner o.now)
unfolding seen
owner-match k i None e = get_or_past (map seen_owner k.owners) i.0 nobody (omega (arith, length-map k.owners seen_owner, slice_get_none k.owners i.0 (sym e)))
owner-match k i (Some b) e = get_or_from_slice_get (map seen_owner k.owners) i.0 (seen_owner b.now) nobody (seen-got k.owners i.0 b.now (sym e))

pub ruleset owners = (owner-at)

pub ruleset words = (words-left, words-right)
