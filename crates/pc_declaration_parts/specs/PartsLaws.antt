-- The parts of a block one after the other: laws.
use Rattle.std.specs.Prelude.{◌≡◌, ℕ, Bool, true, List, [], None, get_or}
use Rattle.std.proofs.Common.{refl, ap, sym, ◌∙◌, subst}
use Rattle.pc_syntax.specs.Plain.{Plain, kids_of}
use Rattle.pc_syntax.specs.declared.kind.Kind.{Kind}
use Rattle.pc_syntax.specs.declared.kind.Kind.TheVariants as kind
use Rattle.pc_types.specs.Shapes.{Owner}
use Rattle.pc_types.specs.Table.{nobody}
use Rattle.pc_rules.specs.Attributes.{Attributes, Marked}
use Rattle.pc_rules.specs.ClosedTypes.{own_domains, close_types}
use Rattle.pc_rules.specs.Decorated.{Seen, seen, rule}
use Rattle.pc_rules.specs.Meanings.{Local, Outside, define_all}
use Rattle.pc_rules.specs.Places.{beside}
use Rattle.pc_environment.specs.Decorating.{attributes_at, below_at, place_behind}
use Rattle.pc_environment.specs.DecoratingLaws.{at-node}
use Rattle.pc_sightings.specs.TouchedLog.{AreApart}
use Rattle.pc_facts.specs.declared.facts.Facts.{Facts}
use Rattle.pc_growth.specs.GrowsLaws.{Grows-then, ShowsNode-grows}
use Rattle.pc_pointers.specs.Good.{Targets}
use Rattle.pc_closed.specs.Carried.{AllTypesCarried}
use Rattle.pc_carrying.specs.Parts.{types_of}
use Rattle.pc_places.specs.ChangesLaws.{Changes-moved, Changes-then}
use Rattle.pc_places.specs.MovesLaws.{IsPlace-kept, Moves-kept, Moves-then}
use Rattle.pc_places.specs.Places.{known, Changes, IsPlace, Keeps, Makes, Moves}
use Rattle.pc_places.specs.declared.tables.Tables.{Tables}
use Rattle.pc_denoters.specs.Cores.{core, IsPlace-core, core-fields, fields-defined}
use Rattle.pc_denoters.specs.Goings.{Anywhere, ShowsFacts}
use Rattle.pc_definitions.specs.Numbered.{AtBefore}
use Rattle.pc_definitions.specs.Rows.{MakesPart}
use Rattle.pc_targets.specs.Blocks.{HidingLaw}
use Rattle.pc_block_laws.specs.Block.{OnceEach, OwnTypes, block_targets}
use Rattle.pc_domains.specs.Told.{Told, IsTold, IsAllTold}
use Rattle.pc_declaration_parts.specs.Blocks.{BlockFacts, ShowsParts}
use Rattle.pc_declaration_parts.specs.CarriedLaws.{carried-types}
use Rattle.pc_declaration_parts.specs.Turning.{StandsTold, Turns}
use Rattle.pc_declaration_parts.specs.declared.parts.Parts.{Parts}

-- ---- behind the type part its types are closed

rule-closes : (l : Local) (k : Kind) (w : List ℕ) (s : Seen) (m : Marked) → k ≡ kind.Types → core (beside l k (rule l k w s m)) ≡ core (close_types (define_all l (rule l k w s m).defines))
unfolding rule
rule-closes l kind.Types w s m e = let a = rule l kind.Types w s m in core-fields l (close_types (define_all l a.defines)) a refl (fields-defined l a.defines)
rule-closes l k w s m e = cc

pub core-closed : (out : Outside) (l : Local) (t : Plain) → t.kind ≡ kind.Types → core (place_behind out l t) ≡ core (close_types (define_all l (attributes_at out l t).defines))
core-closed out l t e =
    ap (λ (a : Attributes). core (beside l t.kind a)) (at-node out l t)
    ∙ rule-closes l t.kind t.word (seen out l t.kind t.word) (below_at out l t) e
    ∙ ap (λ (a : Attributes). core (close_types (define_all l a.defines))) (sym (at-node out l t))

-- ---- all parts

-- the types of a block were closed
pub record ClosesBlock (block owner : ℕ) (is_program : Bool) (types : Plain) (d e : Told) (old new : Tables) : Type 0 where
  pub changes : Changes block old new
  pub closes : (targets : Targets) (out : Outside) (l : Local) → IsTold targets d (known old) → IsPlace old block owner out l → AreApart (known old).table.owners → targets nobody [] ≡ None → OnceEach l.known →
      OwnTypes types l → (is_program ≡ true → owner ≡ 0) → AllTypesCarried targets (own_domains l.known) l.known → ((n : List ℕ) → targets l.owner n ≡ block_targets is_program l n) →
      IsAllTold targets e (known new) × IsPlace new block owner out (close_types l)

-- what is found at the parts of a block, and what is made of its tables, from what is made of each part
pub parts-turned : HidingLaw → (block owner : ℕ) (is_program : Bool) (constants types variables : Plain) (bs vs : List ℕ) (d e f : Told) (t0 t1 t2 t3 t4 t5 : Tables) (p : Parts) → types.kind ≡ kind.Types → Keeps t0 t1 →
    Makes ShowsFacts Anywhere block owner t1 t2 constants p.constants → MakesPart (AtBefore kind.Types kind.Typedef (kids_of types) bs) block owner t2 t3 types p.types →
    ClosesBlock block owner is_program types d e t3 t4 → Turns (AtBefore kind.Vars kind.Vardef (kids_of variables) vs) block owner e f t4 t5 variables p.variables →
    ((targets : Targets) → IsTold targets d (known t0) → IsTold targets d (known t3)) →
    (targets : Targets) (out : Outside) (l : Local) → BlockFacts targets is_program out l constants types → IsPlace t0 block owner out l →
    AtBefore kind.Types kind.Typedef (kids_of types) bs t0 (place_behind out l constants) → AtBefore kind.Vars kind.Vardef (kids_of variables) vs t0 (place_behind out (place_behind out l constants) types) →
    AreApart (known t0).table.owners → IsTold targets d (known t0) → (is_program ≡ true → owner ≡ 0) →
    ShowsParts (known t5) p out l constants types variables × IsPlace t5 block owner out (place_behind out (place_behind out (place_behind out l constants) types) variables) × IsTold targets f (known t5)
parts-turned law block owner is_program constants types variables bs vs d e f t0 t1 t2 t3 t4 t5 p is keeps of_constants of_types closes of_variables told_on targets out l facts place before_types before_variables apart told program =
    let l1 = place_behind out l constants in
    let l2 = place_behind out l1 types in
    let ended = types_of out l constants types in
    let place1 = IsPlace-kept t0 t1 block owner out l keeps place in
    let place2 : IsPlace t2 block owner out l1 = of_constants.behind out l place1 tt in
    let place3 : IsPlace t3 block owner out ended = of_types.declared out l1 place2 before_types in
    let owners : (known t3).table.owners ≡ (known t0).table.owners = of_types.moves.owners ∙ of_constants.moves.owners ∙ keeps.owners in
    let same_owner : l.owner ≡ ended.owner = sym place.owner_is ∙ ap (λ (os : List Owner). get_or os owner nobody) (sym owners) ∙ place3.owner_is in
    let closed = closes.closes targets out ended (told_on targets told) place3 (subst AreApart (sym owners) apart) facts.none facts.once facts.own program facts.carried
    (λ n. subst (λ (o : Owner). targets o n ≡ block_targets is_program ended n) same_owner (facts.tells n)) in
    let stands : StandsTold targets e t4 block owner out l2 = record {
      place = IsPlace-core t4 block owner out (close_types ended) l2 (sym (core-closed out l1 types is)) closed.1;
      carried = carried-types law targets out l constants types facts.behind;
      told = closed.0.told;
      none = facts.none;
    } in
    let last = of_variables.behind targets out l2 stands before_variables in
    let more = Grows-then (known t3) (known t4) (known t5) closes.changes.grows of_variables.changes.grows in (
      record {
        constants_shown =
            ShowsNode-grows (known t2) (known t5) p.constants (attributes_at out l constants) (Grows-then (known t2) (known t3) (known t5) of_types.moves.grows more) (of_constants.shows out l place1 tt);
        types_shown = ShowsNode-grows (known t3) (known t5) p.types (attributes_at out l1 types) more (of_types.shows out l1 place2 before_types);
        variables_shown = of_variables.shows targets out l2 stands before_variables;
      },
      last.place,
      last.told,
    )

-- what changed
pub parts-changed : (block : ℕ) (t0 t1 t2 t3 t4 t5 : Tables) → Keeps t0 t1 → Moves block t1 t2 → Moves block t2 t3 → Changes block t3 t4 → Changes block t4 t5 → Changes block t0 t5
parts-changed block t0 t1 t2 t3 t4 t5 a b c d e =
    Changes-then block t0 t4 t5 (Changes-then block t0 t3 t4 (Changes-moved block t0 t3 (Moves-then block t0 t2 t3 (Moves-then block t0 t1 t2 (Moves-kept block t0 t1 a) b) c)) d) e
