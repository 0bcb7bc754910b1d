-- Each place of a statement part: what is told there is what is shown.
use Rattle.std.specs.Prelude.{ℕ, ◌≡◌, ◌-◌, Bool, true, false, if◌then◌else◌, List, [], ◌∷◌, ◌++◌, Option, Some, None, map}
use Rattle.std.specs.Option.{option_and_then, option_map_or}
use Rattle.std.proofs.Common.{refl, ap, sym, ◌∙◌, subst, append_assoc, true≢false}
use Rattle.pc_syntax.specs.Classes.{is_body}
use Rattle.pc_syntax.specs.Parts.{kid_at}
use Rattle.pc_syntax.specs.Places.{at}
use Rattle.pc_syntax.specs.Plain.{Cons, Nil, Plain}
use Rattle.pc_syntax.specs.declared.kind.Kind.{Kind}
use Rattle.pc_syntax.specs.declared.kind.Kind.TheVariants as kind
use Rattle.pc_syntax.specs.declared.sort.Sort.TheVariants as sort
use Rattle.pc_types.specs.Expanded.{Ty}
use Rattle.pc_types.specs.Shapes.{Typed}
use Rattle.pc_types.specs.Table.{Table}
use Rattle.pc_types.specs.declared.operand.Operand.{Operand}
use Rattle.pc_decl.specs.Annotated.{annotated}
use Rattle.pc_decl.specs.Nodes.{above, kid_number, is_expression}
use Rattle.pc_decl.specs.TypeAt.{structure_of}
use Rattle.pc_rules.specs.Meanings.{Found, Missing, Local, Outside}
use Rattle.pc_rules.specs.Outsides.{outside_of}
use Rattle.pc_rules.specs.RoutineList.{routines_of}
use Rattle.pc_rules.specs.Routines.{Routine}
use Rattle.pc_found_laws.specs.Ways.{part_path, part_place}
use Rattle.pc_found_laws.proofs.PartLemmas.{parts-stand}
use Rattle.pc_found_laws.proofs.RoleLemmas.{roles-law}
use Rattle.pc_found_laws.proofs.WayLemmas.{at-append, at-reaches, ways-law}
use Rattle.pc_told.specs.Place.{AllTypes}
use Rattle.pc_told.specs.Told.{Above, inside, first_found, kid_place, told_at, told_down, told_on, no_role}
use Rattle.pc_expr_view.specs.PartTypes.{HaveTypes, types_among, types_of_node, types_at}
use Rattle.pc_expr_laws.specs.Law.{structure_told, HasNoExpression, ToldLaw, HaveToldLaw, NothingShownLaw, NothingToldLaw, PlaceLaw, HavePlaceLaw, ExpressionLaw}
use Rattle.pc_expr_laws.proofs.NodeLemmas.{IsRoutine, role-same}
use Rattle.pc_expr_laws.proofs.WayLemmas.{StandsSo, down-shown}

-- ---- the statement part

-- a statement part is no expression
body-other : (k : Kind) → is_body k ≡ true → is_expression k ≡ true → ⊥
body-other kind.Compound b e = true≢false (sym e)
body-other (kind.Hole sort.Statement) b e = true≢false (sym e)
body-other (kind.Hole s) b e = true≢false (sym b)
body-other k b e = true≢false (sym b)

part-so : (t : Plain) (r : Routine) (part : Plain) → IsRoutine t r → at (part_path r) t ≡ Some part → StandsSo t r (part_path r) part (part_place t r) no_role Missing
part-so t r part p here = record {
  stands = ways-law.whole t r part here;
  role = λ is. absurd (body-other part.kind (parts-stand t r part p.proper p.program p.one here).body is);
  roles = λ i.
      role-same part.kind kind.Block Missing i
      ∙ sym (roles-law.plain t (part_path r) part i kind.Block Missing here (roles-law.part t r part p.proper p.program p.one here));
}

-- the path through the statement part
path-on : (r : Routine) (way : List ℕ) → part_path r ++ way ≡ r.place ++ r.block_kid ∷ 5 ∷ way
path-on r way = append_assoc r.place (r.block_kid ∷ 5 ∷ []) way

told : ToldLaw
told t r path x l proper program one h is =
    let p : IsRoutine t r = record { proper = proper; program = program; one = one } in
    ap (types_at t) (h.path_is ∙ sym (path-on r h.way)) ∙ down-shown t r p h.way (part_path r) h.part (part_place t r) no_role Missing (part-so t r h.part p h.here) x l h.reaches is

-- ---- types by their numbers

have : (table : Table) (os : List (Option Operand)) (us : List (Option Typed)) → AllTypes table os us → HaveTypes table os (map structure_told us)
have table [] [] all = tt
have table (o ∷ os) (u ∷ us) all = (ap (option_and_then structure_of) all.0.shape, have table os us all.1)
have table [] (u ∷ us) all = absurd all
have table (o ∷ os) [] all = absurd all

have-these : (table : Table) (os : List (Option Operand)) (us : List (Option Typed)) (ts : List (Option Ty)) → ts ≡ map structure_told us → AllTypes table os us → HaveTypes table os ts
have-these table os us ts e all = subst (HaveTypes table os) (sym e) (have table os us all)

have-told : HaveToldLaw
have-told t r path x l proper program one h is table os all =
    have-these table os (told_on (outside_of (routines_of t) r) (part_place t r) h.part h.way) (types_at t path) (told t r path x l proper program one h is) all

-- ---- no expression

unless : {A : Type 0} (b : Bool) (xs : List A) → b ≡ false → (if b then xs else []) ≡ []
unless b xs e = ap (λ (y : Bool). if y then xs else []) e

nothing-shown : NothingShownLaw
unfolding types_at
nothing-shown t path none = which (at path t) none where
  which : (o : Option Plain) → option_map_or (λ (x : Plain). is_expression x.kind) o false ≡ false → option_map_or (types_of_node t path) o [] ≡ []
  which None e = refl
  which (Some x) e = unless (is_expression x.kind) (types_among (annotated t) (above path) (kid_number path) (Cons x.kind x.word x.notes x.kids Nil)) e

nothing-down : (way : List ℕ) (out : Outside) (l : Local) (h : Above) (f : Found) (y : Plain) → HasNoExpression y way → told_down way out l h f y ≡ []
nothing-down [] out l h f y none = unless (is_expression y.kind) (told_at out l h f y) none
nothing-down (i ∷ way) out l h f y none =
    which (λ z. nothing-down way out (kid_place out l y (i - 1)) (inside h f y.kind) (first_found out l y.kind y.kids) z) (kid_at y i) none where
      which : ((z : Plain) → HasNoExpression z way → told_down way out (kid_place out l y (i - 1)) (inside h f y.kind) (first_found out l y.kind y.kids) z ≡ []) → (o : Option Plain) →
          option_map_or (λ (x : Plain). is_expression x.kind) (option_and_then (at way) o) false ≡ false →
          option_map_or (λ (k : Plain). told_down way out (kid_place out l y (i - 1)) (inside h f y.kind) (first_found out l y.kind y.kids) k) o [] ≡ []
      which rest None e = refl
      which rest (Some z) e = rest z e

-- what is at a path through the statement part
at-part : (t : Plain) (r : Routine) (part : Plain) (way : List ℕ) → at (part_path r) t ≡ Some part → at (r.place ++ r.block_kid ∷ 5 ∷ way) t ≡ at way part
at-part t r part way here = ap (λ (p : List ℕ). at p t) (sym (path-on r way)) ∙ at-append (part_path r) way t ∙ ap (λ (o : Option Plain). option_and_then (at way) o) here

nothing-told : NothingToldLaw
nothing-told t r part way out l here none =
    nothing-down way out l no_role Missing part (subst (λ (o : Option Plain). option_map_or (λ (x : Plain). is_expression x.kind) o false ≡ false) (at-part t r part way here) none)

-- ---- each place

place : PlaceLaw
place t r part way proper program one here = which (at way part) refl where
  out : Outside
  out = outside_of (routines_of t) r

  path : List ℕ
  path = r.place ++ r.block_kid ∷ 5 ∷ way

  none : HasNoExpression t path → types_at t path ≡ map structure_told (told_on out (part_place t r) part way)
  none e = nothing-shown t path e ∙ sym (ap (map structure_told) (nothing-told t r part way out (part_place t r) here e))

  there : (x : Plain) → at way part ≡ Some x → (b : Bool) → is_expression x.kind ≡ b → types_at t path ≡ map structure_told (told_on out (part_place t r) part way)
  there x e true is =
      let reaches = at-reaches out (part_place t r) part way x e in
      told t r path x reaches.0 proper program one (record { part = part; here = here; way = way; path_is = refl; reaches = reaches.1 }) is
  there x e false is = none (ap (λ (o : Option Plain). option_map_or (λ (x : Plain). is_expression x.kind) o false) (at-part t r part way here ∙ e) ∙ is)

  which : (o : Option Plain) → at way part ≡ o → types_at t path ≡ map structure_told (told_on out (part_place t r) part way)
  which None e = none (ap (λ (o : Option Plain). option_map_or (λ (x : Plain). is_expression x.kind) o false) (at-part t r part way here ∙ e))
  which (Some x) e = there x e (is_expression x.kind) refl

have-place : HavePlaceLaw
have-place t r part way proper program one here table os all =
    have-these table os (told_on (outside_of (routines_of t) r) (part_place t r) part way) (types_at t (r.place ++ r.block_kid ∷ 5 ∷ way)) (place t r part way proper program one here) all

pub expression-law : ExpressionLaw
expression-law = record { told = told; have_told = have-told; nothing_shown = nothing-shown; nothing_told = nothing-told; place = place; have_place = have-place }
