-- No routine stands in the definition parts and the variable declaration part of a well-formed block: lemmas.
use Rattle.std.proofs.Common.{◌≡◌, true, false, refl, sym, true≢false}
use Rattle.pc_syntax.specs.Plain.{Forest, Nil, Cons, Plain}
use Rattle.pc_syntax.specs.WellFormed.{IsWellFormed}
use Rattle.pc_syntax.specs.declared.kind.Kind.{Kind}
use Rattle.pc_syntax.specs.declared.kind.Kind.TheVariants as kind
use Rattle.pc_scope.specs.Headings.{is_routine_kind}
use Rattle.pc_rules.specs.Meanings.{Local, Outside}
use Rattle.pc_environment.specs.Decorating.{place_behind}
use Rattle.pc_program_laws.specs.Unsigned.{AllOfKind}
use Rattle.pc_program_laws.proofs.KindLemmas.{is_denoting, all-denoting}
use Rattle.pc_standing.specs.OwnsLaws.{none-behind}
use Rattle.pc_standing.specs.Signed.{HaveNoRoutine, NoRoutines}

no-routine : (k : Kind) → is_denoting k ≡ true → is_routine_kind k ≡ false
no-routine kind.Procedure e = absurd (true≢false (sym e))
no-routine kind.Function e = absurd (true≢false (sym e))
no-routine kind.Funbody e = absurd (true≢false (sym e))
no-routine (kind.Hole s) e = refl
no-routine k e = refl

none-among : (f : Forest) → AllOfKind is_denoting f → HaveNoRoutine f
none-among Nil h = tt
none-among (Cons k w ns ks ts) h = (no-routine k h.0, none-among ks h.1, none-among ts h.2)

-- in a node of a kind that stands in such a part, and so in the part
pub part-free : (t : Plain) → is_denoting t.kind ≡ true → IsWellFormed t → HaveNoRoutine (Cons t.kind t.word t.notes t.kids Nil)
part-free t e sound = none-among (Cons t.kind t.word t.notes t.kids Nil) (all-denoting (Cons t.kind t.word t.notes t.kids Nil) sound (e, tt))

-- so no routine is complete behind it, if none was
pub none-part : (out : Outside) (l : Local) (t : Plain) → is_denoting t.kind ≡ true → IsWellFormed t → NoRoutines l.known → NoRoutines (place_behind out l t).known
none-part out l t e sound none = none-behind out l t (part-free t e sound) none
