-- Domains get their types one after another: lemmas.
use Rattle.std.proofs.Common.{◌≡◌, inl, inr, ℕ, ◌+◌, ◌<◌, ◌≤◌, Bool, List, Option, length, option_map, get_or, refl, ap, sym, ◌∙◌, subst, arith}
use Rattle.pc_types.specs.Shapes.{Owner, Shape}
use Rattle.pc_types.specs.Table.{Place, numbered, nobody, place_at, domain_at}
use Rattle.pc_types.specs.declared.form.TypeId.{TypeId}
use Rattle.pc_types.specs.declared.form.DomainId.{DomainId}
use Rattle.pc_names.specs.Table.{Table as Names}
use Rattle.pc_closing.specs.SpreadLaws.{less-or-not}
use Rattle.pc_closing.specs.LongerLaws.{longer-target, target-here, target-elsewhere}
use Rattle.pc_places.specs.Places.{known}
use Rattle.pc_places.specs.declared.tables.Tables.{Tables}
use Rattle.pc_domains.specs.Told.{Retargeted}
use Rattle.pc_domains.specs.Rows.{type_named, StandsAt, TellsRow, TellsRows}
use Rattle.pc_domains.specs.RetargetedLaws.{Retargeted-same, Retargeted-then, Retargeted-row, place-kept, length-kept}

-- what stands at the place of a domain still stands there where only the types of domains have changed
pub StandsAt-kept : (cs : List Bool) (ts : List ((ℕ × ℕ) × Option TypeId)) (old new : Tables) (x : DomainId) (s : Option Shape) → Retargeted old new → StandsAt cs ts old x s → StandsAt cs ts new x s
StandsAt-kept cs ts old new x s same h =
    let place : place_at (known new).table x ≡ place_at (known old).table x = place-kept old new x same in
    record {
      owner = h.owner;
      is_closed = h.is_closed;
      is = ap (λ (p : Place). p.owner) place ∙ h.is ∙ sym (ap (λ (os : List Owner). get_or os h.owner nobody) same.owners);
      target = h.target ∙ ap (λ (ss : List Shape). option_map (numbered ss) (type_named ts old.names.texts h.owner (place_at (known old).table x).name)) (sym same.shapes)
          ∙ ap (λ (ns : List (List ℕ)). option_map (numbered (known new).table.shapes) (type_named ts ns h.owner (place_at (known old).table x).name)) (sym (ap (λ (n : Names). n.texts) same.names))
          ∙ ap (λ (p : Place). option_map (numbered (known new).table.shapes) (type_named ts new.names.texts h.owner p.name)) (sym place);
    }

pub rows-none : (cs : List Bool) (ts : List ((ℕ × ℕ) × Option TypeId)) (from : ℕ) (t : Tables) → TellsRows cs ts from from t t
rows-none cs ts from t = record {
  same = Retargeted-same t;
  before = λ x h. refl;
  longer = λ a h l. l;
  told = λ x h k. absurd (omega (arith, h, k));
}

pub rows-more : (cs : List Bool) (ts : List ((ℕ × ℕ) × Option TypeId)) (from : ℕ) (y : DomainId) (old mid new : Tables) → from ≤ y.0 → y.0 < length (known old).table.domains →
    TellsRows cs ts from y.0 old mid → TellsRow cs ts y mid new → TellsRows cs ts from (y.0 + 1) old new
rows-more cs ts from y old mid new ahead there h g =
    let row : Retargeted mid new = Retargeted-row cs ts y mid new g in
    let within : y.0 < length (known mid).table.domains = omega (arith, there, length-kept old mid h.same) in
    record {
      same = Retargeted-then old mid new h.same row;
      before = λ x l. target-elsewhere (known mid).table (known new).table y.0 g.shape g.types x (λ e. omega (arith, ahead, l, e)) ∙ h.before x l;
      longer = λ a l k. longer-target a (known mid).table (known new).table y.0 g.shape (h.longer a l k) (omega (arith, l, ahead)) g.types;
      told = λ x a b. elim (less-or-not x.0 y.0) [
        | inl l ↦
            let same : domain_at (known new).table x ≡ domain_at (known mid).table x = target-elsewhere (known mid).table (known new).table y.0 g.shape g.types x (λ e. omega (arith, l, e)) in
            subst (λ d. StandsAt cs ts new x d.shape) (sym same) (StandsAt-kept cs ts mid new x (domain_at (known mid).table x).shape row (h.told x a l))
        | inr k ↦
            let is : y ≡ x = same-id y x (omega (arith, b, k)) in
            subst (λ (z : DomainId). StandsAt cs ts new z (domain_at (known new).table z).shape) is
            (subst (λ (s : Option Shape). StandsAt cs ts new y s) (sym (target-here (known mid).table (known new).table g.shape y g.types within)) (StandsAt-kept cs ts mid new y g.shape row g.stands))
      ];
    }
  where
    same-id : (a b : DomainId) → a.0 ≡ b.0 → a ≡ b
    same-id a b e = λ i. record { 0 = e i }
