use Rattle.std.proofs.Common.{ℕ, ◌≡◌, length, arith, subst, sym, ◌∙◌, ap}
use Rattle.std.proofs.Math.ListN.{set}
use Rattle.pc_scope.specs.declared.names.Entry.{Entry}
use Rattle.pc_scope.specs.Table.{chain_of, IsLinked, names_in, links_in}
use Rattle.pc_scope.proofs.Firsts.{entry-push, get_or-any}
use Rattle.pc_scope.proofs.names.Names.push.Goals as goal

pub invariant_of-self-2 : goal.invariant_of-self-2
invariant_of-self-2 c =
    let e : Entry = record { decl = c.args.decl; is_definition = c.args.is_definition; link = c.index-link.result.now } in
    let size : length c.args.self.now.heads.items ≡ c.len.result = omega (arith, c.len.ensures, c.args.self.now.heads.ok.0) in
    let count : length c.push.new.self.items ≡ c.len-2.result = omega (arith, c.len-2.ensures, c.push.new.self.ok.0) in
    let P : ℕ → Type 0 = λ k. IsLinked (names_in c.push.new.self.items) (links_in c.push.new.self.items) (set c.args.self.now.heads.items c.chain-i.result k) in
    record {
      linked = subst P count (entry-push c.args.self.now.entries.items c.args.self.now.heads.items c.args.self.now.linked c.args.decl.name c.chain-i.result e c.push.new.self.items
          (c.chain-i.ensures.value ∙ ap (λ n. chain_of n c.len.result) c.bytes.ensures ∙ ap (chain_of c.args.decl.name) (sym size))
          (omega (arith, c.chain-i.ensures.within, size)) c.requires
          (c.index-link.ensures ∙ get_or-any c.args.self.now.heads.items c.chain-i.result c.index-link.result.now 0 (omega (arith, c.chain-i.ensures.within, size)))
          c.in_ok-push.ensures.items);
    }
