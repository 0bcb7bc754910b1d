-- What names mean around a heading, as more is numbered: lemmas.
use Rattle.std.proofs.Common.{◌≡◌, ℕ, ◌<◌, List, [], ◌∷◌, length, get_or, refl, ap, sym, subst, ◌∙◌, unwrap_or, append-nil}
use Rattle.std.proofs.lemmas.Option.{slice_get-get_or}
use Rattle.pc_types.specs.Shapes.{Owner}
use Rattle.pc_types.specs.Rows.{seen}
use Rattle.pc_types.specs.Table.{nobody}
use Rattle.pc_names.specs.Bindings.{bound_or}
use Rattle.pc_names.specs.Chains.{chain_of}
use Rattle.pc_names.specs.Finding.{FindsAs, FindsAlong}
use Rattle.pc_names.specs.Numbers.{AreDistinct}
use Rattle.pc_names.specs.Table.{Table, slot_named, found_named}
use Rattle.pc_names.specs.declared.bound.Bound.{Bound}
use Rattle.pc_names.specs.declared.slot.Slot.{Slot}
use Rattle.pc_rules.specs.Meanings.{Found}
use Rattle.pc_rules.specs.RequiredMeanings.{required_or_missing}
use Rattle.pc_growth.specs.Grows.{Begins}
use Rattle.pc_growth.specs.GrowsLaws.{slice_get-begins, get_or-begins, less-begins}
use Rattle.pc_places.specs.Places.{known, Keeps}
use Rattle.pc_places.specs.SceneLaws.{ShowsUnsigned-grows, FindsAlong-more}
use Rattle.pc_places.specs.Scenes.{SeesNames, ShowsUnsigned}
use Rattle.pc_places.specs.declared.tables.Tables.{Tables}
use Rattle.pc_headings.specs.Headed.{IsAround, AreThere}

chain-begins : (old new : List (List ℕ)) (block : ℕ) → Begins old new → block < length old → chain_of new block ≡ chain_of old block
chain-begins old new block b there =
    let at = slice_get-get_or old block [] there in
    ap (λ o. unwrap_or o []) (slice_get-begins old new block (get_or old block []) b at ∙ sym at)

found-alike : (old new : Table) (blocks : List ℕ) (n : List ℕ) → ((b : ℕ) (q : List ℕ) → slot_named new b q ≡ slot_named old b q) → found_named new blocks n ≡ found_named old blocks n
found-alike old new [] n same = refl
found-alike old new (b ∷ blocks) n same = ap (λ (s : Slot). bound_or s (found_named new blocks n)) (same b n) ∙ ap (bound_or (slot_named old b n)) (found-alike old new blocks n same)

-- what names mean from a block
pub SeesNames-keeps : (old new : Tables) (block : ℕ) (means : List ℕ → Found) → block < length old.names.chains → Keeps old new → SeesNames (known old) old.names old.declarations.items block [] means →
    SeesNames (known new) new.names new.declarations.items block [] means
SeesNames-keeps old new block means there keeps sees =
    let D = ShowsUnsigned (known old) old.declarations.items in
    let E = ShowsUnsigned (known new) new.declarations.items in
    let chain = chain_of old.names.chains block in
    let more : FindsAlong E required_or_missing old.names chain sees.outer =
    FindsAlong-more D E required_or_missing old.names chain sees.outer (λ d m s. ShowsUnsigned-grows (known old) (known new) old.declarations.items new.declarations.items d m keeps.grows keeps.declarations s) sees.along in
    record {
      outer = sees.outer;
      fields = sees.fields;
      along = subst (λ (bs : List ℕ). FindsAlong E required_or_missing new.names bs sees.outer) (sym (chain-begins old.names.chains new.names.chains block keeps.chains there))
          (λ n. subst (λ (b : Bound). FindsAs E (required_or_missing n) b (sees.outer n)) (sym (found-alike old.names new.names chain n keeps.slots)) (more n));
      opens = sees.opens;
      means_are = sees.means_are;
      named = refl;
      distinct = keeps.distinct sees.distinct;
    }

pub IsAround-keeps : (old new : Tables) (block owner : ℕ) (means : List ℕ → Found) (o : Owner) → AreThere old block owner → Keeps old new → IsAround old block owner means o → IsAround new block owner means o
IsAround-keeps old new block owner means o there keeps around = record {
  sees = SeesNames-keeps old new block means there.block_there keeps around.sees;
  owner_is = get_or-begins (known old).table.owners (known new).table.owners owner nobody keeps.grows.owners there.owner_there ∙ around.owner_is;
}

pub AreThere-keeps : (old new : Tables) (block owner : ℕ) → Keeps old new → AreThere old block owner → AreThere new block owner
AreThere-keeps old new block owner keeps there = record {
  block_there = less-begins old.names.chains new.names.chains block keeps.chains there.block_there;
  owner_there = less-begins (known old).table.owners (known new).table.owners owner keeps.grows.owners there.owner_there;
}

-- the tables after a signature was added
pub Keeps-signatures : (old new : Tables) → new.types ≡ old.types → new.texts.items ≡ old.texts.items → Begins old.signatures.items new.signatures.items → new.declarations.items ≡ old.declarations.items →
    new.names ≡ old.names → Keeps old new
Keeps-signatures old new types texts signatures declarations names = record {
  grows = record {
    shapes = record { more = []; is = ap (λ t. (seen t).shapes) types ∙ sym (append-nil (known old).table.shapes) };
    owners = record { more = []; is = ap (λ t. (seen t).owners) types ∙ sym (append-nil (known old).table.owners) };
    names = record { more = []; is = ap (λ (t : Table). t.texts) names ∙ sym (append-nil old.names.texts) };
    texts = record { more = []; is = texts ∙ sym (append-nil old.texts.items) };
    signatures = signatures;
  };
  declarations = record { more = []; is = declarations ∙ sym (append-nil old.declarations.items) };
  chains = record { more = []; is = ap (λ (t : Table). t.chains) names ∙ sym (append-nil old.names.chains) };
  distinct = λ d. subst (λ (t : Table). AreDistinct t.texts) (sym names) d;
  slots = λ b n. ap (λ (t : Table). slot_named t b n) names;
  domains = record { more = []; is = ap (λ t. (seen t).domains) types ∙ sym (append-nil (known old).table.domains) };
  owners = ap (λ t. (seen t).owners) types;
}
