-- Runs of the machine, one after another.
use Rattle.std.proofs.Common.{◌≡◌, ℕ, suc, List, refl, ap, ◌∙◌}
use Rattle.pc_syntax.specs.declared.class.Class.{Class}
use Rattle.pc_syntax.specs.Plain.{Plain}
use Rattle.pc_syntax.specs.Symbols.{Sym}
use Rattle.pc_parse.specs.Machine.{State}
use Rattle.pc_parse.specs.Runs.{Go, step, continue, exec}

-- From one state and input the machine comes to another: whatever it does from there, it does from here.
pub record Leads (root : Class) (a : State Plain) (xs : List Sym) (b : State Plain) (ys : List Sym) : Type 0 where
  pub go : (n : ℕ) → (j : ℕ) × (exec root j a xs ≡ exec root n b ys)

pub one : (root : Class) (a : State Plain) (xs : List Sym) (b : State Plain) (ys : List Sym) → step root a xs ≡ Go b ys → Leads root a xs b ys
one root a xs b ys e = record { go = λ n. (suc n, ap (λ r. continue r (exec root n)) e) }

pub stays : (root : Class) (a : State Plain) (xs : List Sym) → Leads root a xs a xs
stays root a xs = record { go = λ n. (n, refl) }

pub onward : {root : Class} {a : State Plain} {xs : List Sym} {b : State Plain} {ys : List Sym} {c : State Plain} {zs : List Sym} → Leads root a xs b ys → Leads root b ys c zs → Leads root a xs c zs
onward f g = record { go = λ n. let p = g.go n in let q = f.go p.0 in (q.0, q.1 ∙ p.1) }
