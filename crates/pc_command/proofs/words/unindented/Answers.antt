use Rattle.std.proofs.Common.{◌≡◌, ◌≢◌, ◌∙◌, ℕ, ◌<◌, ◌+◌, List, length, get_or, drop, eqb, true, false, arith, sym, refl}
use Rattle.std.proofs.lemmas.List.{drop_more, take_rest, drop_all}
use Rattle.std.proofs.lemmas.Bool.Decides.{nat_tests}
use Rattle.pc_command.specs.Words.{unindented}
use Rattle.pc_command.proofs.words.unindented.Goals as goal

unindented-space : (xs : List ℕ) (i : ℕ) → i < length xs → get_or xs i 0 ≡ 32 → unindented (drop (i + 1) xs) ≡ unindented (drop i xs)
unfolding unindented
unindented-space xs i below is =
    let test : eqb (get_or xs i 0) 32 ≡ true = grind (arith, nat_tests) in
    rw (drop_more xs i 0 below, test) refl

unindented-other : (xs : List ℕ) (i : ℕ) → i < length xs → get_or xs i 0 ≢ 32 → unindented (drop i xs) ≡ drop i xs
unfolding unindented
unindented-other xs i below is =
    let test : eqb (get_or xs i 0) 32 ≡ false = grind (arith, nat_tests) in
    rw (drop_more xs i 0 below, test) refl

pub returns-then-byte-ne32 : goal.returns-then-byte-ne32
returns-then-byte-ne32 c =
    let line = c.args.line.now in
    let below : c.loop-i.i < length line = omega arith in
    let other : get_or line c.loop-i.i 0 ≢ 32 = c.if-byte-ne32.true in
    rw take_rest (sym (unindented-other line c.loop-i.i below other) ∙ c.loop-i.invariant)

pub loop-i-preserved : goal.loop-i-preserved
loop-i-preserved c =
    let line = c.args.line.now in
    let below : c.loop-i.i < length line = omega arith in
    unindented-space line c.loop-i.i below c.if-byte-ne32.false ∙ c.loop-i.invariant

pub returns : goal.returns
unfolding unindented
returns c =
    let line = c.args.line.now in
    let none = drop_all c.loop-i.i line (omega arith) in
    rw none at c.loop-i.invariant
