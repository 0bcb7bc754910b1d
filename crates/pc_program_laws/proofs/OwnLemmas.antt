-- The own block of a well-formed one differs in its routines alone.
use Rattle.std.specs.Prelude.{◌≡◌}
use Rattle.std.proofs.Common.{refl, sym, subst}
use Rattle.pc_syntax.specs.declared.kind.Kind.TheVariants as kind
use Rattle.pc_syntax.specs.Plain.{Nil, Cons}
use Rattle.pc_syntax.specs.WellFormed.{WellFormed}
use Rattle.pc_rules.specs.OwnBlock.{own}
use Rattle.pc_program_laws.specs.Routines.{with_bare_routines, OwnBlockLaw}
use Rattle.pc_program_laws.proofs.BlockLemmas.{block-parts}
use Rattle.pc_program_laws.proofs.FineLemmas.{own-fine, body-fine}
use Rattle.pc_program_laws.proofs.KindLemmas.{own-part}

pub own-block : OwnBlockLaw
unfolding own
own-block w f e g =
    let b = block-parts w f e in
    let h = subst WellFormed b.is g in
    let body : own (Cons b.j b.v5 b.n5 b.k5 Nil) ≡ Cons b.j b.v5 b.n5 b.k5 Nil = own-fine (Cons b.j b.v5 b.n5 b.k5 Nil) h.4.4.4.4 (body-fine b.j b.body, tt) in
    subst (λ x. own x ≡ with_bare_routines x) (sym b.is)
    (λ i. Cons kind.Consts b.v1 b.n1 (own-part kind.Consts b.v1 b.k1 refl h.0 h.3 i) (Cons kind.Types b.v2 b.n2 (own-part kind.Types b.v2 b.k2 refl h.4.0 h.4.3 i)
    (Cons kind.Vars b.v3 b.n3 (own-part kind.Vars b.v3 b.k3 refl h.4.4.0 h.4.4.3 i) (Cons kind.Routines b.v4 b.n4 (own b.k4) (body i)))))
