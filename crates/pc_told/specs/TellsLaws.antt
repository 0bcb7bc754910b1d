-- What was told of a node, of nodes in a row, and of the node above them: lemmas.
use Rattle.std.specs.Prelude.{◌≡◌, ◌+◌, ◌∷◌, ◌++◌, [], ℕ, Bool, true, false, if◌then◌else◌, List, Option, length}
use Rattle.std.proofs.Common.{refl, ap, sym, ◌∙◌, subst, arith}
use Rattle.pc_syntax.specs.Plain.{Forest, Plain, forest_of, kids_of}
use Rattle.pc_syntax.specs.PartsLaws.{forest_of-kids_of}
use Rattle.pc_types.specs.Rows.{seen}
use Rattle.pc_types.specs.declared.operand.Operand.{Operand}
use Rattle.pc_forms.specs.FormClasses.{Every}
use Rattle.pc_rules.specs.Meanings.{Found, Local, Outside}
use Rattle.pc_rules.specs.Places.{inner}
use Rattle.pc_environment.specs.Decorating.{attributes_at, place_after}
use Rattle.pc_environment.specs.RowLaws.{SeesFrom, sees-after}
use Rattle.pc_environment.specs.Sight.{Sight, is_body}
use Rattle.pc_environment.specs.SightLaws.{sight-inner}
use Rattle.pc_bodies.specs.SeesLaws.{stands-kept}
use Rattle.pc_bodies.specs.Resolved.{known, Stands}
use Rattle.pc_bodies.specs.declared.body.Body.{Body}
use Rattle.pc_bodies.specs.declared.body.Going.{Going}
use Rattle.pc_decl.specs.Nodes.{is_expression}
use Rattle.pc_decl.specs.Roles.{Role, judged_as}
use Rattle.pc_told.specs.Contexts.{role_by, ShowsContext, ShowsWanted}
use Rattle.pc_told.specs.PartLaws.{part-closed, part-body}
use Rattle.pc_told.specs.Parts.{is_part}
use Rattle.pc_told.specs.RoleLaws.{role-is}
use Rattle.pc_told.specs.Tells.{Kept, StandsAt, ToldMore, Typing, TellsOwn, TellsNode, TellsRow}
use Rattle.pc_told.specs.Told.{Above, inside, first_found, role_of, told_here, told_among, told_at}
use Rattle.pc_told.specs.ToldLaws.{told-more, kid-after, told-none, told-then, kept-same, kept-then}
use Rattle.pc_told.specs.declared.roles.Context.{Context}
use Rattle.pc_told.specs.declared.roles.Wanted.{Wanted}

-- ---- a node by itself

-- an expression whose type was told
pub tells-type : (b : Body) (g0 g1 : Going) (before after : List (Option Operand)) (r : Role) (t : Plain) (x : Option Operand) → is_expression t.kind ≡ true → after ≡ before ++ x ∷ [] → Typing b g0 g1 r t x →
    TellsOwn b g0 g1 before after r t
tells-type b g0 g1 before after r t x is e h = record {
  told = λ out l s sees stands.
      let a = attributes_at out l t in
      let one : ToldMore (seen b.types.now) before after ((judged_as r a).type ∷ []) = record { more = x ∷ []; is = e; shows = (h.shows out l s sees stands, tt) } in
      subst (λ (y : Bool). ToldMore (seen b.types.now) before after (if y then (judged_as r a).type ∷ [] else [])) (sym is) one;
  kept = h.kept;
}

-- any other node
pub tells-nothing : (b : Body) (g : Going) (before : List (Option Operand)) (r : Role) (t : Plain) → is_expression t.kind ≡ false → TellsOwn b g g before before r t
tells-nothing b g before r t isnt = record {
  told = λ out l s sees stands.
      let a = attributes_at out l t in
      subst (λ (y : Bool). ToldMore (seen b.types.now) before before (if y then (judged_as r a).type ∷ [] else [])) (sym isnt) (told-none (seen b.types.now) before);
  kept = kept-same g;
}

-- ---- nodes in a row

-- no node
pub row-none : (b : Body) (g : Going) (xs : List (Option Operand)) (c : Context) (w : Wanted) → TellsRow b g g xs xs c w []
row-none b g xs c w = record { told = λ out l s h f sees stands context wants kid. told-none (seen b.types.now) xs; kept = kept-same g }

-- one more node behind others
pub row-more : (b : Body) (g0 g1 g2 : Going) (x0 x1 x2 : List (Option Operand)) (c : Context) (w : Wanted) (ts : List Plain) (t : Plain) → Every (λ u. is_body u.kind ≡ true) ts → TellsRow b g0 g1 x0 x1 c w ts →
    TellsNode b g1 g2 x1 x2 c w (length ts) t → TellsRow b g0 g2 x0 x2 c w (ts ++ t ∷ [])
row-more b g0 g1 g2 x0 x1 x2 c w ts t bodies row one = record {
  told = λ out l s h f sees stands context wants kid.
      let l2 = place_after out l ts in
      let number : l2.kid ≡ length ts + 1 = omega (arith, kid-after out l ts, kid) in
      let last = one.told out l2 s h f (sees-after out l s ts bodies sees) (stands-kept b g0 g1 s row.kept.opened row.kept.texts stands) context wants number in
      subst (ToldMore (seen b.types.now) x0 x2) (sym (told-more out l h f ts t))
      (told-then (seen b.types.now) x0 x1 x2 (told_among out l h f (forest_of ts)) (told_at out l2 h f t) (row.told out l s h f sees stands context wants kid) last);
  kept = kept-then g0 g1 g2 row.kept one.kept;
}

-- ---- a node and those below it

-- where the kids of a node stand
abbrev pub kids_context : Context → Wanted → Plain → Context
kids_context c w t = record { kind = t.kind; outer = c.kind; wanted = w }

-- the kids of a node stand so
pub context-below : (b : Body) (c : Context) (w : Wanted) (h : Above) (f : Found) (t : Plain) → ShowsContext b.signatures.now c h → ShowsWanted b.signatures.now w h.kind f →
    ShowsContext b.signatures.now (kids_context c w t) (inside h f t.kind)
context-below b c w h f t context wants = record { kind = refl; outer = context.kind; wanted = wants }

-- a node, given what was told of itself, what it wants of its arguments, and what was told of its kids
pub tells-node : (b : Body) (g0 g1 g2 g3 : Going) (x0 x1 x2 : List (Option Operand)) (c : Context) (w own : Wanted) (index : ℕ) (t : Plain) (r : Role) → is_part t.kind ≡ true →
    r ≡ role_by b.signatures.now c.kind c.wanted (index + 1) → TellsOwn b g0 g1 x0 x1 r t → Kept g1 g2 →
    ((out : Outside) (l : Local) → StandsAt b g1 out l → ShowsWanted b.signatures.now own t.kind (first_found out l t.kind t.kids)) →
    TellsRow b g2 g3 x1 x2 (kids_context c w t) own (kids_of t) → TellsNode b g0 g3 x0 x2 c w index t
tells-node b g0 g1 g2 g3 x0 x1 x2 c w own index t r part role one kept wanted row = record {
  told = λ out l s h f sees stands context wants kid.
      let table = seen b.types.now in
      let is : r ≡ role_of h l.kid = role ∙ role-is b.signatures.now c h (index + 1) context ∙ ap (role_of h) (sym kid) in
      let a = attributes_at out l t in
      let here : ToldMore table x0 x1 (told_here (role_of h l.kid) t.kind a) = subst (λ (q : Role). ToldMore table x0 x1 (told_here q t.kind a)) is (one.told out l s sees stands) in
      let stands1 = stands-kept b g0 g1 s one.kept.opened one.kept.texts stands in
      let stands2 = stands-kept b g1 g2 s kept.opened kept.texts stands1 in
      let at1 : StandsAt b g1 out l = subst (λ (z : Sight). Stands b (known b g1) g1.opened.items z) (sym sees.sight) stands1 in
      let first : SeesFrom out (inner l t.kind t.kids) s = record { sight = sight-inner out l t.kind t.kids (part-body t.kind part) ∙ sees.sight; closed = part-closed t.kind part } in
      let found = first_found out l t.kind t.kids in
      let below = row.told out (inner l t.kind t.kids) s (inside h f t.kind) found first stands2 (context-below b c w h f t context wants) (wanted out l at1) refl in
      told-then table x0 x1 x2 (told_here (role_of h l.kid) t.kind a) (told_among out (inner l t.kind t.kids) (inside h f t.kind) found t.kids) here
      (subst (λ (ks : Forest). ToldMore table x1 x2 (told_among out (inner l t.kind t.kids) (inside h f t.kind) found ks)) (forest_of-kids_of t) below);
  kept = kept-then g0 g1 g3 one.kept (kept-then g1 g2 g3 kept row.kept);
}
