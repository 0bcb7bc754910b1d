use Rattle.std.proofs.Common.{◌≡◌, take, map, true}
use Rattle.std.specs.List.{list_all}
use Rattle.pc_syntax.specs.Paths.{is_small_name}
use Rattle.pc_syntax.proofs.key.Key.read.Given as goal

-- the parts so far are names, and these are kept
abbrev pub invariant-loop-part : goal.invariant-loop-part
invariant-loop-part l = record {
  same : l.names.items ≡ map (λ part. part.now) (take l.part-index l.part-items);
  small : list_all is_small_name (map (λ part. part.now) (take l.part-index l.part-items)) ≡ true;
}
