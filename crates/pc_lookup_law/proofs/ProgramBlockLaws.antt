-- The program's block is that of the program as a routine.
use Rattle.std.proofs.Common.{Bool, List, None, [], ap, arith, false, if◌then◌else◌, refl, subst, suc, sym, true, ℕ, ◌+◌, ◌<◌, ◌==◌, ◌∙◌, ◌∷◌, ◌≡◌}
use Rattle.std.specs.Option.{option_map_or}
use Rattle.pc_lookup_law.specs.ClassAt.{HasClass}
use Rattle.pc_lookup_law.proofs.BelongsLaws.{Belongs}
use Rattle.pc_lookup_law.proofs.BlockKidsLaws.{BlockRooted, block-rooted, kids-blockly}
use Rattle.pc_lookup_law.proofs.ClassAtLaws.{rooted-program}
use Rattle.pc_lookup_law.proofs.HeadingKidsLaws.{HeadingFits, heading-fits, part-other}
use Rattle.pc_lookup_law.proofs.KidsLaws.{EndsInBlock, ProgramKids, SecondQuiet, heading-other, program-kids}
use Rattle.pc_rule_laws.specs.Agreement.{Agrees}
use Rattle.pc_rule_laws.specs.Levels.{lookup-in}
use Rattle.pc_rule_laws.specs.Matching.{Matches}
use Rattle.pc_rule_laws.specs.ParameterNames.{firsts-count}
use Rattle.pc_rule_laws.specs.Quiet.{Asked, asked}
use Rattle.pc_rule_laws.specs.Roles.{defines-role, defines_by, keys, second_node}
use Rattle.pc_rules.specs.Attributes.{Marked}
use Rattle.pc_rules.specs.Decorated.{decorate, rule, seen}
use Rattle.pc_rules.specs.Meanings.{Class, Local, Missing, Outside, Required, entry_of}
use Rattle.pc_rules.specs.OwnBlock.{heading_part}
use Rattle.pc_rules.specs.Places.{beside, inner}
use Rattle.pc_rules.specs.RequiredMeanings.{required_or_missing}
use Rattle.pc_rules.specs.RoutineList.{program_routine}
use Rattle.pc_rules.specs.Routines.{bare, heading_marks, heading_start, params_in, parameters_of}
use Rattle.pc_scope.specs.Around.{program_block}
use Rattle.pc_scope.specs.Blocks.{block_kids, kid_count}
use Rattle.pc_scope.specs.Declarations.{MissingAt, RequiredAt}
use Rattle.pc_scope.specs.Lookup.{Declaration, declaration, declaration_in, lookup, required_or_not, seen_from}
use Rattle.pc_scope.specs.Required.{is_required}
use Rattle.pc_types.specs.Shapes.{Keyed}
use Rattle.pc_syntax.specs.Plain.{Cons, Forest, Nil, Plain}
use Rattle.pc_syntax.specs.WellFormed.{IsWellFormed}
use Rattle.pc_syntax.specs.Words.{lowered}
use Rattle.pc_syntax.specs.declared.kind.Kind.TheVariants as kind

-- a heading whose second tree declares nothing has no parameters
second-silent : (out : Outside) (n : List ℕ) (l : Local) (f : Forest) → SecondQuiet f → entry_of (keys (second_node (decorate out l f)).defines) n ≡ None
unfolding decorate
second-silent out n l Nil h = refl
second-silent out n l (Cons j v os js Nil) h = refl
second-silent out n l (Cons j v os js (Cons k w ns ks ts)) h =
    let x : Local = beside l j (rule l j v (seen out l j v) (decorate out (inner l j js) js)) in
    let m : Marked = decorate out (inner x k ks) ks in
    ap (λ ds. entry_of ds n) (defines-role x k w (seen out x k w) m ∙ ap (λ z. defines_by z x m) h)

second-part : (f : Forest) → SecondQuiet f → EndsInBlock f → 2 < kid_count f → SecondQuiet (heading_part f)
second-part Nil h e more = absurd e
second-part (Cons j v os js Nil) h e more = absurd (omega (arith, more))
second-part (Cons j v os js (Cons k w ns ks Nil)) h e more = absurd (omega (arith, more))
second-part (Cons j v os js (Cons k w ns ks (Cons o u ms us ts))) h e more =
    subst SecondQuiet
    (sym (part-other j v os js (Cons k w ns ks (Cons o u ms us ts)) (heading-other j e.0) ∙ ap (Cons j v os js) (part-other k w ns ks (Cons o u ms us ts) (heading-other k e.1.0)))) h

no-parameters : (t : Plain) (n : List ℕ) → SecondQuiet (heading_part t.kids) → Matches n (keys (parameters_of (program_routine t))) []
unfolding heading_marks
no-parameters t n h =
    firsts-count [] (params_in (heading_marks (program_routine t))).defines n
    ∙ second-silent (bare required_or_missing) n (heading_start (Keyed [])) (heading_part t.kids) h

-- around the program there are the required names
required-agrees : (T : List ℕ → Class → Type 0) (n : List ℕ) → Agrees T (required_or_missing n) (required_or_not n)
required-agrees T n = by (is_required n) where
  by : (b : Bool) → Agrees T (if b then Required n else Missing) (if b then RequiredAt else MissingAt)
  by true = tt
  by false = tt

outside-block : (t : Plain) (name : List ℕ) (m : ℕ) (way : List ℕ) → (m == 3) ≡ false → lookup t name (m ∷ way) ≡ required_or_not (lowered name)
unfolding lookup declaration
outside-block t name m way e =
    ap (λ b. option_map_or (λ (d : Declaration). seen_from (m ∷ way) d.declared) (if b then declaration_in (lowered name) (program_block t) way else None) (required_or_not (lowered name))) e

pub program-belongs : (t : Plain) → IsWellFormed t → t.kind ≡ kind.Program → Belongs t (program_routine t) (program_block t)
program-belongs t sound is =
    let k : ProgramKids t.kids = program-kids t.word t.kids (subst (λ z. Asked z t.word t.kids) is (asked t.kind t.word t.kids sound.0)) in
    let root : BlockRooted t (3 ∷ []) (block_kids t.kids) = block-rooted t [] None 1 3 t.kids k.ends (ap suc (sym k.count) ∙ last-kid (kid_count t.kids)) (rooted-program t) in
    record {
      block = refl;
      place = refl;
      number = refl;
      late = omega arith;
      heading = subst (HeadingFits (heading_part t.kids)) k.count (heading-fits t.kids sound.3 k.first k.ends);
      kids = kids-blockly t.kids sound.3;
      given = root.class;
      root = root.root;
      placed = [];
      matches = λ n. no-parameters t n (second-part t.kids k.second k.ends (omega (arith, k.count)));
      places = refl;
      before = λ way. tt;
      classed = tt;
      outer = λ n q. required_or_not n;
      around = λ x xs m way less. required-agrees (HasClass t) (x ∷ xs);
      inside = λ name way. lookup-in t name way;
      beside = λ name m way apart. outside-block t name m way apart;
    } where
      last-kid : (n : ℕ) → suc n ≡ 1 + n
      last-kid n = omega arith
