-- One write after another, where the bytes written may be untold.
use Rattle.std.specs.Prelude.{ℕ, List, [], ◌++◌, Option, Some, None}
use Rattle.std.specs.Io.KnownBytes.{Appends, Keeps}
use Rattle.std.proofs.Common.{sym, append_assoc, refl}
use Rattle.std.proofs.lemmas.List.{append-nil}

-- Two pieces written one after the other are their joint bytes written at once.
pub Appends-more : (a b c : Option (List ℕ)) (xs ys : List ℕ) → Appends a b xs → Appends b c ys → Appends a c (xs ++ ys)
Appends-more None b c xs ys p q = tt
Appends-more (Some x) None c xs ys p q = absurd p
Appends-more (Some x) (Some y) None xs ys p q = absurd q
Appends-more (Some x) (Some y) (Some z) xs ys p q = rw (q, p, append_assoc) refl

-- Nothing is written where nothing changes.
pub Appends-none : (a : Option (List ℕ)) → Appends a a []
Appends-none None = tt
Appends-none (Some x) = sym (append-nil x)

-- What was written stays written where no byte changes afterwards.
pub Appends-kept : (a b c : Option (List ℕ)) (xs : List ℕ) → Appends a b xs → Keeps b c → Appends a c xs
Appends-kept None b c xs p q = tt
Appends-kept (Some x) None c xs p q = absurd p
Appends-kept (Some x) (Some y) None xs p q = absurd q
Appends-kept (Some x) (Some y) (Some z) xs p q = rw (q, p) refl
