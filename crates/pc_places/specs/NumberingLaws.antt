-- Names get numbers, and all else stays: lemmas.
use Rattle.std.proofs.Common.{◌≡◌, ℕ, Bool, true, false, List, [], ◌∷◌, ◌++◌, zero, suc, slice_get, Option, Some, None, refl, ap, sym, ◌∙◌, subst, if◌then◌else◌}
use Rattle.std.proofs.lemmas.List.{append-nil}
use Rattle.std.proofs.lemmas.Slice.Eq.{bytes_eq-Decides}
use Rattle.std.specs.Option.{option_map}
use Rattle.std.specs.Str.{bytes_eq}
use Rattle.pc_names.specs.Numbers.{AreDistinct, number_of, with_name, with_name_if}
use Rattle.pc_names.specs.Table.{Table, slot_named}
use Rattle.pc_names.specs.TableLaws.{slice_get-number_of}
use Rattle.pc_types.specs.Rows.{seen}
use Rattle.pc_growth.specs.Grows.{Begins, Grows}
use Rattle.pc_growth.specs.GrowsLaws.{Begins-same}
use Rattle.pc_places.specs.declared.tables.Tables.{Tables}
use Rattle.pc_places.specs.Places.{known, Keeps}

number-by : (b : Bool) (o p : Option ℕ) (i : ℕ) → ((j : ℕ) → o ≡ Some j → p ≡ Some j) → (if b then Some 0 else option_map suc o) ≡ Some i → (if b then Some 0 else option_map suc p) ≡ Some i
number-by true o p i rest e = e
number-by false None p i rest e = cc
number-by false (Some j) p i rest e = ap (option_map suc) (rest j refl) ∙ e

number-append : (ms ns : List (List ℕ)) (n : List ℕ) (i : ℕ) → number_of ms n ≡ Some i → number_of (ms ++ ns) n ≡ Some i
number-append [] ns n i e = cc
number-append (m ∷ ms) ns n i e = number-by (bytes_eq n m) (number_of ms n) (number_of (ms ++ ns) n) i (λ j is. number-append ms ns n j is) e

-- a name keeps its number
pub number_of-begins : (ms ns : List (List ℕ)) (n : List ℕ) (i : ℕ) → Begins ms ns → number_of ms n ≡ Some i → number_of ns n ≡ Some i
number_of-begins ms ns n i h e = subst (λ (xs : List (List ℕ)). number_of xs n ≡ Some i) (sym h.is) (number-append ms h.more n i e)

begins-by : (o : Option ℕ) (ms : List (List ℕ)) (n : List ℕ) → Begins ms (with_name_if o ms n)
begins-by (Some i) ms n = Begins-same ms
begins-by None ms n = record { more = n ∷ []; is = refl }

-- the tables after a name got its number
pub Keeps-number : (old new : Tables) (w : List ℕ) → new.types ≡ old.types → new.texts.items ≡ old.texts.items → new.signatures.items ≡ old.signatures.items →
    new.declarations.items ≡ old.declarations.items → new.names ≡ record old.names { texts = with_name old.names.texts w } → AreDistinct new.names.texts →
    ((b : ℕ) (n : List ℕ) → slot_named new.names b n ≡ slot_named old.names b n) → Keeps old new
Keeps-number old new w types texts signatures declarations names distinct slots = record {
  grows = record {
    shapes = record { more = []; is = ap (λ t. (seen t).shapes) types ∙ sym (append-nil (known old).table.shapes) };
    owners = record { more = []; is = ap (λ t. (seen t).owners) types ∙ sym (append-nil (known old).table.owners) };
    names = subst (λ (ms : List (List ℕ)). Begins old.names.texts ms) (sym (ap (λ (t : Table). t.texts) names)) (begins-by (number_of old.names.texts w) old.names.texts w);
    texts = record { more = []; is = texts ∙ sym (append-nil old.texts.items) };
    signatures = record { more = []; is = signatures ∙ sym (append-nil old.signatures.items) };
  };
  declarations = record { more = []; is = declarations ∙ sym (append-nil old.declarations.items) };
  chains = record { more = []; is = ap (λ (t : Table). t.chains) names ∙ sym (append-nil old.names.chains) };
  distinct = λ d. distinct;
  slots = slots;
  domains = record { more = []; is = ap (λ t. (seen t).domains) types ∙ sym (append-nil (known old).table.domains) };
  owners = ap (λ t. (seen t).owners) types;
}

-- the tables after more was numbered than names
pub Keeps-grown : (old new : Tables) → Grows (known old) (known new) → Begins old.declarations.items new.declarations.items → new.names ≡ old.names →
    Begins (known old).table.domains (known new).table.domains → (known new).table.owners ≡ (known old).table.owners → Keeps old new
Keeps-grown old new grows declarations names domains owners = record {
  grows = grows;
  declarations = declarations;
  chains = record { more = []; is = ap (λ (t : Table). t.chains) names ∙ sym (append-nil old.names.chains) };
  distinct = λ d. subst (λ (t : Table). AreDistinct t.texts) (sym names) d;
  slots = λ b n. ap (λ (t : Table). slot_named t b n) names;
  domains = domains;
  owners = owners;
}

-- the characters of strings
pub Keeps-texts : (old new : Tables) → new.types ≡ old.types → Begins old.texts.items new.texts.items → new.signatures.items ≡ old.signatures.items →
    new.declarations.items ≡ old.declarations.items → new.names ≡ old.names → Keeps old new
Keeps-texts old new types texts signatures declarations names = Keeps-grown old new
    (record {
      shapes = record { more = []; is = ap (λ t. (seen t).shapes) types ∙ sym (append-nil (known old).table.shapes) };
      owners = record { more = []; is = ap (λ t. (seen t).owners) types ∙ sym (append-nil (known old).table.owners) };
      names = record { more = []; is = ap (λ (t : Table). t.texts) names ∙ sym (append-nil old.names.texts) };
      texts = texts;
      signatures = record { more = []; is = signatures ∙ sym (append-nil old.signatures.items) };
    })
    (record { more = []; is = declarations ∙ sym (append-nil old.declarations.items) }) names
    (record { more = []; is = ap (λ t. (seen t).domains) types ∙ sym (append-nil (known old).table.domains) }) (ap (λ t. (seen t).owners) types)

-- types
pub Keeps-types : (old new : Tables) → Begins (known old).table.shapes (known new).table.shapes → (known new).table.owners ≡ (known old).table.owners →
    Begins (known old).table.domains (known new).table.domains →
    new.texts.items ≡ old.texts.items → new.signatures.items ≡ old.signatures.items → new.declarations.items ≡ old.declarations.items → new.names ≡ old.names → Keeps old new
Keeps-types old new shapes owners domains texts signatures declarations names = Keeps-grown old new
    (record {
      shapes = shapes;
      owners = record { more = []; is = owners ∙ sym (append-nil (known old).table.owners) };
      names = record { more = []; is = ap (λ (t : Table). t.texts) names ∙ sym (append-nil old.names.texts) };
      texts = record { more = []; is = texts ∙ sym (append-nil old.texts.items) };
      signatures = record { more = []; is = signatures ∙ sym (append-nil old.signatures.items) };
    })
    (record { more = []; is = declarations ∙ sym (append-nil old.declarations.items) }) names domains owners

there-by : (b : Bool) (o : Option ℕ) → (if b then Some 0 else option_map suc o) ≡ None → (b ≡ false) × (o ≡ None)
there-by true o e = cc
there-by false None e = (refl, refl)
there-by false (Some j) e = cc

-- a name that stands in the list has a number
number_of-there : (ms : List (List ℕ)) (n : List ℕ) (i : ℕ) → slice_get ms i ≡ Some n → number_of ms n ≡ None → ⊥
number_of-there [] n i at none = cc
number_of-there (m ∷ ms) n zero at none =
    let apart = there-by (bytes_eq n m) (number_of ms n) none in
    let same : m ≡ n = cc in
    let is : bytes_eq n m ≡ true = (bytes_eq-Decides n m).1 (sym same) in
    let wrong : true ≡ false = sym is ∙ apart.0 in cc
number_of-there (m ∷ ms) n (suc i) at none = number_of-there ms n i at (there-by (bytes_eq n m) (number_of ms n) none).1

-- the number of a name that stands at it
pub number_of-slice_get : (ms : List (List ℕ)) (n : List ℕ) (i : ℕ) → AreDistinct ms → slice_get ms i ≡ Some n → number_of ms n ≡ Some i
number_of-slice_get ms n i distinct at = by (number_of ms n) refl
  where
    by : (o : Option ℕ) → number_of ms n ≡ o → o ≡ Some i
    by (Some j) e = ap Some (distinct j i n (slice_get-number_of ms n j e) at)
    by None e = absurd (number_of-there ms n i at e)
