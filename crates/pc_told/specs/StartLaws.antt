-- What is told from a statement part on: lemmas.
use Rattle.std.specs.Prelude.{◌≡◌, ◌++◌, ℕ, true, List, [], Option, Result, IfOk}
use Rattle.std.proofs.Common.{refl, ap, sym, ◌∙◌, subst}
use Rattle.std.proofs.lemmas.Result.{IfOk-weaker}
use Rattle.pc_syntax.specs.Classes.{has, same_sort}
use Rattle.pc_syntax.specs.Plain.{Plain}
use Rattle.pc_syntax.specs.declared.class.Class.TheVariants as class
use Rattle.pc_syntax.specs.declared.kind.Kind.{Kind}
use Rattle.pc_syntax.specs.declared.kind.Kind.TheVariants as kind
use Rattle.pc_syntax.specs.declared.sort.Sort.{Sort}
use Rattle.pc_syntax.specs.declared.sort.Sort.TheVariants as sort
use Rattle.pc_types.specs.Rows.{seen}
use Rattle.pc_types.specs.Shapes.{Typed}
use Rattle.pc_types.specs.Table.{Table}
use Rattle.pc_types.specs.declared.operand.Operand.{Operand}
use Rattle.pc_rules.specs.Meanings.{Missing, Local, Outside}
use Rattle.pc_rules.specs.Outsides.{outside_of}
use Rattle.pc_places.specs.declared.tables.Tables.{Tables}
use Rattle.pc_bodies.specs.declared.body.Body.{Body}
use Rattle.pc_bodies.specs.declared.body.Going.{Going}
use Rattle.pc_standing.specs.BodyLaws.{stands-for-body}
use Rattle.pc_standing.specs.Standing.{HasTables}
use Rattle.pc_decl.specs.Nodes.{is_expression}
use Rattle.pc_told.specs.Contexts.{ShowsContext}
use Rattle.pc_told.specs.Place.{AllTypes, FindsTypes}
use Rattle.pc_told.specs.Tells.{StandsAt, ToldMore, TellsDown}
use Rattle.pc_told.specs.Told.{no_role, told_on}
use Rattle.pc_told.specs.declared.roles.Context.{Context}
use Rattle.pc_told.specs.declared.roles.Wanted.TheVariants as wanted

-- a hole for a statement is none for an expression
no-statement : (s : Sort) → same_sort s sort.Statement ≡ true → is_expression (kind.Hole s) ≡ true → ⊥
no-statement sort.Statement b e = cc
no-statement sort.Expression b e = cc
no-statement s b e = cc

-- the node of a statement part is of another sort
pub body-no-expression : (k : Kind) → has class.Body k ≡ true → is_expression k ≡ true → ⊥
body-no-expression (kind.Hole s) b e = no-statement s b e
body-no-expression kind.Compound b e = cc
body-no-expression k b e = cc

-- what the code knows of where a statement part stands
abbrev pub outermost : Context
outermost = record { kind = kind.Block; outer = kind.Program; wanted = wanted.Values }

-- types that were told behind none
behind-none : (t : Table) (before after : List (Option Operand)) (ts : List (Option Typed)) → before ≡ [] → ToldMore t before after ts → AllTypes t after ts
behind-none t before after ts none h = subst (λ (xs : List (Option Operand)). AllTypes t xs ts) (sym (h.is ∙ ap (λ (xs : List (Option Operand)). xs ++ h.more) none)) h.shows

-- what was told at the end of a way from a statement part
pub told-start : (b : Body) (old : Going) (before after : List (Option Operand)) (node : Plain) (way : List ℕ) → has class.Body node.kind ≡ true → before ≡ [] → TellsDown b old before after outermost wanted.Values 0 node way →
    (out : Outside) (l : Local) → StandsAt b old out l → AllTypes (seen b.types.now) after (told_on out l node way)
told-start b old before after node way is none down out l stands =
    let context : ShowsContext b.signatures.now outermost no_role = record { kind = refl; outer = refl; wanted = λ i. refl } in
    behind-none (seen b.types.now) before after (told_on out l node way) none (down out l no_role Missing stands context (λ i. refl) (λ e. absurd (body-no-expression node.kind is e)))

-- what was told by the tables of a block but for the texts
pub finds-types-if : {X E : Type 0} (items : X → List (Option Operand)) (b : Body) (old : Going) (node : Plain) (way : List ℕ) (r : Result X E) →
    IfOk r (λ x. (out : Outside) (l : Local) → StandsAt b old out l → AllTypes (seen b.types.now) (items x) (told_on out l node way)) →
    (u : Tables) → b.types.now ≡ u.types → b.names.now ≡ u.names → b.declarations.now ≡ u.declarations.items → b.signatures.now ≡ u.signatures.items →
    IfOk r (λ x. FindsTypes u b.block.0 b.owner.0 b.own_function b.inside.now b.mark old node way (items x))
finds-types-if items b old node way r told u types names declarations signatures = IfOk-weaker r
    (λ x. (out : Outside) (l : Local) → StandsAt b old out l → AllTypes (seen b.types.now) (items x) (told_on out l node way))
    (λ x. FindsTypes u b.block.0 b.owner.0 b.own_function b.inside.now b.mark old node way (items x))
    (λ x made t has_all texts opened targets all r l at owns named signs self apart told good inside.
    let tables : HasTables t b old = record {
      types = types ∙ has_all.types;
      names = names ∙ has_all.names;
      declarations = declarations ∙ has_all.declarations;
      signatures = signatures ∙ has_all.signatures;
      texts = texts;
      opened = opened;
    } in
    let stands = stands-for-body targets t all r l b old tables at owns named signs self apart told good inside in
    subst (λ ts. AllTypes (seen ts) (items x) (told_on (outside_of all r) l node way)) types (made (outside_of all r) l stands))
    told
