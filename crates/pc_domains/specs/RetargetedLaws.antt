-- Only the types of domains have changed: lemmas.
use Rattle.std.proofs.Common.{◌≡◌, ℕ, zero, suc, Bool, List, [], ◌∷◌, Option, length, map, get_or, refl, ap, sym, ◌∙◌, subst}
use Rattle.std.proofs.lemmas.List.{append-nil, length-map}
use Rattle.pc_types.specs.Shapes.{Shape, Domain}
use Rattle.pc_types.specs.Growth.{retargeted}
use Rattle.pc_types.specs.Table.{Place, place_of, place_at, nowhere}
use Rattle.pc_types.specs.declared.form.TypeId.{TypeId}
use Rattle.pc_types.specs.declared.form.DomainId.{DomainId}
use Rattle.pc_names.specs.Numbers.{AreDistinct}
use Rattle.pc_names.specs.Table.{Table as Names, slot_named}
use Rattle.pc_rules.specs.Meanings.{Local, Outside}
use Rattle.pc_facts.specs.declared.sighting.Declared.{Declared}
use Rattle.pc_growth.specs.Grows.{Begins, Grows}
use Rattle.pc_places.specs.Places.{known, IsNamed, IsPlace, Changes}
use Rattle.pc_places.specs.MovesLaws.{IsPlace-changed, own-kept}
use Rattle.pc_places.specs.declared.tables.Tables.{Tables}
use Rattle.pc_domains.specs.Told.{Retargeted}
use Rattle.pc_domains.specs.Rows.{TellsRow}

-- ---- one after another

pub Retargeted-same : (t : Tables) → Retargeted t t
Retargeted-same t = record { shapes = refl; owners = refl; places = refl; names = refl; declarations = refl; signatures = refl; texts = refl }

pub Retargeted-then : (a b c : Tables) → Retargeted a b → Retargeted b c → Retargeted a c
Retargeted-then a b c f g = record {
  shapes = g.shapes ∙ f.shapes;
  owners = g.owners ∙ f.owners;
  places = g.places ∙ f.places;
  names = g.names ∙ f.names;
  declarations = g.declarations ∙ f.declarations;
  signatures = g.signatures ∙ f.signatures;
  texts = g.texts ∙ f.texts;
}

places-retargeted : (ds : List Domain) (i : ℕ) (t : Option Shape) → map place_of (retargeted ds i t) ≡ map place_of ds
places-retargeted [] i t = refl
places-retargeted (d ∷ ds) zero t = refl
places-retargeted (d ∷ ds) (suc i) t = ap (λ (ps : List Place). place_of d ∷ ps) (places-retargeted ds i t)

pub Retargeted-row : (cs : List Bool) (ts : List ((ℕ × ℕ) × Option TypeId)) (x : DomainId) (old new : Tables) → TellsRow cs ts x old new → Retargeted old new
Retargeted-row cs ts x old new h = record {
  shapes = h.types.shapes;
  owners = h.types.owners;
  places = ap (map place_of) h.types.domains ∙ places-retargeted (known old).table.domains x.0 h.shape;
  names = h.names;
  declarations = h.declarations;
  signatures = h.signatures;
  texts = h.texts;
}

-- ---- what stays

pub place-kept : (old new : Tables) (x : DomainId) → Retargeted old new → place_at (known new).table x ≡ place_at (known old).table x
place-kept old new x h = ap (λ (ps : List Place). get_or ps x.0 nowhere) h.places

pub length-kept : (old new : Tables) → Retargeted old new → length (known new).table.domains ≡ length (known old).table.domains
length-kept old new h = sym (length-map (known new).table.domains place_of) ∙ ap (λ (ps : List Place). length ps) h.places ∙ length-map (known old).table.domains place_of

begins-equal : {X : Type 0} (a b : List X) → b ≡ a → Begins a b
begins-equal a b e = record { more = []; is = e ∙ sym (append-nil a) }

pub Grows-retargeted : (old new : Tables) → Retargeted old new → Grows (known old) (known new)
Grows-retargeted old new h = record {
  shapes = begins-equal (known old).table.shapes (known new).table.shapes h.shapes;
  owners = begins-equal (known old).table.owners (known new).table.owners h.owners;
  names = begins-equal old.names.texts new.names.texts (ap (λ (n : Names). n.texts) h.names);
  texts = begins-equal old.texts.items new.texts.items h.texts;
  signatures = begins-equal old.signatures.items new.signatures.items h.signatures;
}

-- where only the types of domains have changed, nothing has changed but that
pub Changes-retargeted : (block : ℕ) (old new : Tables) → Retargeted old new → Changes block old new
Changes-retargeted block old new h = record {
  grows = Grows-retargeted old new h;
  declarations = begins-equal old.declarations.items new.declarations.items h.declarations;
  chains = begins-equal old.names.chains new.names.chains (ap (λ (n : Names). n.chains) h.names);
  distinct = λ d. subst (λ (n : Names). AreDistinct n.texts) (sym h.names) d;
  others = λ b n there apart. ap (λ (t : Names). slot_named t b n) h.names;
  named = λ is. subst (λ (n : Names). IsNamed n new.declarations.items) (sym h.names) (subst (λ (ds : List Declared). IsNamed old.names ds) (sym h.declarations) is);
  owners = h.owners;
}

-- the tables stand for the same place
pub IsPlace-retargeted : (old new : Tables) (block owner : ℕ) (out : Outside) (l : Local) → Retargeted old new → IsPlace old block owner out l → IsPlace new block owner out l
IsPlace-retargeted old new block owner out l h at =
    let k = Changes-retargeted block old new h in
    let slots : (b : ℕ) (n : List ℕ) → slot_named new.names b n ≡ slot_named old.names b n = λ b n. ap (λ (t : Names). slot_named t b n) h.names in
    IsPlace-changed old new block owner out l l k.grows k.declarations k.chains k.distinct (λ b less n. slots b n) refl refl
    (own-kept old new block l k.grows k.declarations (λ n. slots block n) at.own) at
