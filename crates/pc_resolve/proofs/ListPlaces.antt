-- Behind the list of the routines of a block, and behind its last tree, the same names stand: lemmas.
use Rattle.std.proofs.Common.{◌≡◌, ℕ, Bool, true, false, List, [], ◌∷◌, refl, ap, sym, ◌∙◌, true≢false}
use Rattle.pc_forms.specs.FormClasses.{Every}
use Rattle.pc_syntax.specs.Plain.{Plain, kids_of, forest_of}
use Rattle.pc_syntax.specs.declared.kind.Kind.{Kind}
use Rattle.pc_syntax.specs.declared.kind.Kind.TheVariants as kind
use Rattle.pc_rules.specs.Attributes.{Attributes, Marked, nodes}
use Rattle.pc_rules.specs.Decorated.{Seen, rule, seen}
use Rattle.pc_rules.specs.HandedOn.{all_defines}
use Rattle.pc_rules.specs.ListRuleLaws.{rule-routines}
use Rattle.pc_rules.specs.Meanings.{Meaning, Local, Outside, define_all}
use Rattle.pc_rules.specs.Places.{behind, beside, inner}
use Rattle.pc_environment.specs.Decorating.{attributes_at, below_at, marks_of, place_behind, place_after}
use Rattle.pc_environment.specs.DecoratingLaws.{at-node, at-kids}
use Rattle.pc_denoters.specs.Cores.{core, core-defined, core-fields, define_all-append, fields-defined}

-- routines, their list, and holes
abbrev pub is_listed : Kind → Bool
is_listed kind.Procedure = true
is_listed kind.Function = true
is_listed kind.Funbody = true
is_listed kind.Routines = true
is_listed (kind.Hole s) = true
is_listed _ = false

rule-listed : (l : Local) (k : Kind) (w : List ℕ) (s : Seen) (m : Marked) → is_listed k ≡ true → core (beside l k (rule l k w s m)) ≡ core (define_all l (rule l k w s m).defines)
unfolding rule
rule-listed l kind.Procedure w s m e = let a = rule l kind.Procedure w s m in core-fields l (behind l kind.Procedure a) a refl (fields-defined l a.defines)
rule-listed l kind.Function w s m e = let a = rule l kind.Function w s m in core-fields l (behind l kind.Function a) a refl (fields-defined l a.defines)
rule-listed l kind.Funbody w s m e = let a = rule l kind.Funbody w s m in core-fields l (behind l kind.Funbody a) a refl (fields-defined l a.defines)
rule-listed l kind.Routines w s m e = let a = rule l kind.Routines w s m in core-fields l (define_all l a.defines) a refl (fields-defined l a.defines)
rule-listed l (kind.Hole x) w s m e = let a = rule l (kind.Hole x) w s m in core-fields l (behind l (kind.Hole x) a) a refl refl
rule-listed l k w s m e = absurd (true≢false (sym e))

-- behind one of them what it declares is declared
pub core-listed : (out : Outside) (l : Local) (t : Plain) → is_listed t.kind ≡ true → core (place_behind out l t) ≡ core (define_all l (attributes_at out l t).defines)
core-listed out l t e =
    ap (λ (a : Attributes). core (beside l t.kind a)) (at-node out l t)
    ∙ rule-listed l t.kind t.word (seen out l t.kind t.word) (below_at out l t) e
    ∙ ap (λ (a : Attributes). core (define_all l a.defines)) (sym (at-node out l t))

-- and behind several
pub core-row : (out : Outside) (l : Local) (ts : List Plain) → Every (λ u. is_listed u.kind ≡ true) ts → core (place_after out l ts) ≡ core (define_all l (all_defines (nodes (marks_of out l ts))))
core-row out l [] e = refl
core-row out l (t ∷ ts) e =
    let d = (attributes_at out l t).defines in
    let m = place_behind out l t in
    let ds = all_defines (nodes (marks_of out m ts)) in
    core-row out m ts e.1 ∙ core-defined m (define_all l d) ds (core-listed out l t e.0) ∙ ap core (sym (define_all-append l d ds))

-- what the list declares is what the routines in it declare
pub list-defines : (out : Outside) (l : Local) (t : Plain) → t.kind ≡ kind.Routines →
    (attributes_at out l t).defines ≡ all_defines (nodes (marks_of out (inner l kind.Routines (forest_of (kids_of t))) (kids_of t)))
list-defines out l t is =
    let m = marks_of out (inner l kind.Routines (forest_of (kids_of t))) (kids_of t) in
    ap (λ (a : Attributes). a.defines) (at-kids out l t kind.Routines (kids_of t) is refl ∙ rule-routines l t.word (seen out l kind.Routines t.word) m)

-- so behind the last of them the names are those behind the list
pub core-list : (out : Outside) (l : Local) (t : Plain) → t.kind ≡ kind.Routines → Every (λ u. is_listed u.kind ≡ true) (kids_of t) →
    core (place_after out (inner l kind.Routines (forest_of (kids_of t))) (kids_of t)) ≡ core (place_behind out l t)
core-list out l t is all =
    let l1 = inner l kind.Routines (forest_of (kids_of t)) in
    let ds = all_defines (nodes (marks_of out l1 (kids_of t))) in
    core-row out l1 (kids_of t) all ∙ core-defined l1 l ds refl ∙ ap (λ (es : List (List ℕ × Meaning)). core (define_all l es)) (sym (list-defines out l t is))
    ∙ sym (core-listed out l t (ap is_listed is))
