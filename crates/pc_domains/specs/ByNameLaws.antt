-- What stands under an owner and a name, when something is put there: a lemma.
use Rattle.std.proofs.Common.{◌≡◌, Bool, true, false, Option, Some, if◌then◌else◌, refl}
use Rattle.std.specs.Option.{option_and_then}
use Rattle.pc_types.specs.declared.form.TypeId.{TypeId}

pub inside-put : (b : Bool) (x : Option TypeId) (o : Option (Option TypeId)) →
    option_and_then (λ (t : Option TypeId). t) (if b then Some x else o) ≡ (if b then x else option_and_then (λ (t : Option TypeId). t) o)
inside-put true x o = refl
inside-put false x o = refl
