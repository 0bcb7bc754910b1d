-- What stands under the names of a block has numbers that are there: lemmas.
use Rattle.std.proofs.Common.{◌≡◌, ◌⊎◌, inl, inr, ℕ, ◌<◌, Bool, true, false, nat_eq, List, [], ◌∷◌, Option, Some, None, slice_get, length, ap, sym, ◌∙◌, true≢false, arith}
use Rattle.std.proofs.lemmas.Bool.{or_cases}
use Rattle.std.proofs.lemmas.Bool.Decides.{nat_tests}
use Rattle.std.proofs.lemmas.Option.{none-some, slice_get_within}
use Rattle.std.specs.Option.{is_some, option_and_then}
use Rattle.pc_types.specs.declared.form.TypeId.{TypeId}
use Rattle.pc_types.specs.declared.operand.Operand.TheVariants as operand
use Rattle.pc_rules.specs.Meanings.{Meaning, Local, Outside, entry_of}
use Rattle.pc_names.specs.Bindings.{slot_in}
use Rattle.pc_names.specs.Numbers.{number_of}
use Rattle.pc_names.specs.Standing.{IsKnown}
use Rattle.pc_names.specs.TableLaws.{slice_get-number_of}
use Rattle.pc_names.specs.declared.id.NameId.{NameId}
use Rattle.pc_names.specs.declared.id.DeclarationId.{DeclarationId}
use Rattle.pc_places.specs.Places.{known, IsPlace}
use Rattle.pc_places.specs.Scenes.{ShowsUnsigned}
use Rattle.pc_places.specs.declared.tables.Tables.{Tables}
use Rattle.pc_domains.specs.BlockLaws.{ClassIs, class-is, has-at}
use Rattle.pc_domains.specs.Types.{AreNumbers, is_id, type_in, declared_type, SaysIf, Says}
use Rattle.pc_domains.specs.declared.naming.RequiredNames.{RequiredNames}

-- the name with a number that is one of these
record HasNumber (texts : List (List ℕ)) (i : ℕ) : Type 0 where
  name : List ℕ
  number : number_of texts name ≡ Some i

name-of : (texts : List (List ℕ)) (ids : List NameId) (ns : List (List ℕ)) (i : ℕ) → AreNumbers texts ids ns → is_id ids i ≡ true → HasNumber texts i
name-of texts [] ns i h e = absurd (true≢false (sym e))
name-of texts (k ∷ ids) [] i h e = absurd h
name-of texts (k ∷ ids) (n ∷ ns) i h e = elim (or_cases (nat_eq k.0 i) (is_id ids i) e) [
  | inl q ↦ record { name = n; number = h.0.0 ∙ ap Some (equal q) }
  | inr q ↦ name-of texts ids ns i h.1 q
]
  where
    equal : nat_eq k.0 i ≡ true → k.0 ≡ i
    equal q = grind (arith, nat_tests)

declared-there : (t : Tables) (k : Option DeclarationId) (e : Option Meaning) (x : TypeId) → IsKnown (ShowsUnsigned (known t) t.declarations.items) k e →
    declared_type (option_and_then (λ (d : DeclarationId). slice_get t.declarations.items d.0) k) ≡ Some (operand.Id x) → x.0 < length (known t).table.shapes
declared-there t None e x h q = absurd (none-some (operand.Id x) q)
declared-there t (Some d) None x h q = absurd h
declared-there t (Some d) (Some m) x h q = by (class-is h.declared.class h.declared.of) (sym (ap declared_type h.is) ∙ q)
  where
    by : ClassIs h.declared.class h.declared.of true ⊎ ClassIs h.declared.class h.declared.of false → type_in h.declared.class h.declared.of ≡ Some (operand.Id x) → x.0 < length (known t).table.shapes
    by (inl c) g = h.shows.shows.type.there (operand.Id x) (sym c.type ∙ g)
    by (inr c) g = absurd (none-some (operand.Id x) (sym c.type ∙ g))

-- what the block says of a name is there
pub says-there : (t : Tables) (block owner i : ℕ) (r : Option RequiredNames) (ids : List NameId) (ns : List (List ℕ)) (out : Outside) (l : Local) (x : TypeId) → IsPlace t block owner out l →
    AreNumbers t.names.texts ids ns → is_id ids i ≡ true → Says t block r i (Some x) → (i < length t.names.texts) × (x.0 < length (known t).table.shapes)
says-there t block owner i r ids ns out l x at numbers among says =
    let n = name-of t.names.texts ids ns i numbers among in
    let h = has-at t block owner i out l n.name at n.number in (
      slice_get_within t.names.texts i n.name (slice_get-number_of t.names.texts n.name i n.number),
      by (is_some (slot_in t.names.slots block i).class) says (λ q. declared-there t (slot_in t.names.slots block i).known (entry_of l.known n.name) x h.is_known q),
    )
  where
    by : (b : Bool) → SaysIf b t block r i (Some x) →
        (declared_type (option_and_then (λ (d : DeclarationId). slice_get t.declarations.items d.0) (slot_in t.names.slots block i).known) ≡ Some (operand.Id x) → x.0 < length (known t).table.shapes) →
        x.0 < length (known t).table.shapes
    by true s f = f s
    by false s f = s.there
