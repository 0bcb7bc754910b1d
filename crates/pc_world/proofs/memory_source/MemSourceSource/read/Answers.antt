use Rattle.std.proofs.Common.{◌≡◌, ℕ, ◌+◌, ◌≤◌, List, ◌++◌, length, take, drop, arith, refl, ap, length-append, length-drop}
use Rattle.std.proofs.lemmas.List.{take_at, take-append-drop, drop-drop, drop_all, length-take-le, take_rest}
use Rattle.pc_world.proofs.memory_source.MemSourceSource.read.Goals as goal

-- What was copied to the front, and then what is left, are what was left before.
moved : (t m : ℕ) (bs rest copied : List ℕ) → t + m ≤ length bs → copied ≡ take m (drop t bs) → drop t bs ≡ take m (copied ++ rest) ++ drop (t + m) bs
moved t m bs rest copied fits e =
    let room : m ≤ length (drop t bs) = omega (arith, length-drop t bs) in
    let len : length copied ≡ m = rw e (length-take-le m (drop t bs) room) in
    rw (take_at copied rest m len, e, ← drop-drop m t bs, take-append-drop m (drop t bs)) refl

pub returns-clause-bytes : goal.returns-clause-bytes
returns-clause-bytes c =
    let s = c.args.self.now in
    let m = c.min-count.result in
    let count = simp (c.deref.ensures.value, take_rest) at c.min-count.ensures in
    let after = simp (c.deref.ensures.value, take_rest) at c.copy_from_slice.ensures.after in
    let within : s.taken ≤ length s.bytes.items = omega (arith, s.within, s.bytes.ok.0) in
    let fits : s.taken + m ≤ length s.bytes.items = omega (arith, length-drop s.taken s.bytes.items) in (
      moved s.taken m s.bytes.items (drop m c.args.into.now) c.copy_from_slice.new.self fits after,
      λ none room. drop_all (s.taken + m) s.bytes.items (omega (arith, length-drop s.taken s.bytes.items, length-append c.copy_from_slice.new.self (drop m c.args.into.now), length-drop m c.args.into.now, ap length after)),
    )
