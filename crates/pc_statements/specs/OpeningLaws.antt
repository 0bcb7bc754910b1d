-- What is found at a node of a statement part doesn't depend on whether its place stands among accesses that open records.
use Rattle.std.specs.Prelude.{◌≡◌, ℕ, true, false, List}
use Rattle.std.proofs.Common.{refl, ap, sym, ◌∙◌}
use Rattle.pc_syntax.specs.Plain.{Forest, Plain}
use Rattle.pc_syntax.specs.declared.kind.Kind.{Kind}
use Rattle.pc_syntax.specs.declared.kind.Kind.TheVariants as kind
use Rattle.pc_rules.specs.Attributes.{Marked}
use Rattle.pc_rules.specs.Decorated.{seen, rule, decorate}
use Rattle.pc_rules.specs.Meanings.{Local, Outside, find}
use Rattle.pc_rules.specs.Places.{inner}
use Rattle.pc_environment.specs.Decorating.{attributes_at, below_at}
use Rattle.pc_environment.specs.DecoratingLaws.{at-node}
use Rattle.pc_environment.specs.RowLaws.{SeesFrom}
use Rattle.pc_environment.specs.Sight.{Sight, sight_of, is_body}

-- the same place, where no records are opened
abbrev pub closed_place : Local → Local
closed_place l = record l { opening = false }

inner-closed : (l : Local) (k : Kind) (ks : Forest) → is_body k ≡ true → inner (closed_place l) k ks ≡ inner l k ks
inner-closed l kind.Cnumber ks e = refl
inner-closed l kind.Cstring ks e = refl
inner-closed l kind.Cname ks e = refl
inner-closed l kind.Csign ks e = refl
inner-closed l kind.Empty ks e = refl
inner-closed l kind.Assign ks e = refl
inner-closed l kind.Proc ks e = refl
inner-closed l kind.Compound ks e = refl
inner-closed l kind.If ks e = refl
inner-closed l kind.Ifelse ks e = refl
inner-closed l kind.Case ks e = refl
inner-closed l kind.Arm ks e = refl
inner-closed l kind.Repeat ks e = refl
inner-closed l kind.While ks e = refl
inner-closed l kind.For ks e = refl
inner-closed l kind.With ks e = refl
inner-closed l kind.Ref ks e = refl
inner-closed l kind.Index ks e = refl
inner-closed l kind.Select ks e = refl
inner-closed l kind.Deref ks e = refl
inner-closed l kind.Number ks e = refl
inner-closed l kind.Text ks e = refl
inner-closed l kind.Nil ks e = refl
inner-closed l kind.Call ks e = refl
inner-closed l kind.Parens ks e = refl
inner-closed l kind.Not ks e = refl
inner-closed l kind.Setcon ks e = refl
inner-closed l kind.Mul ks e = refl
inner-closed l kind.Add ks e = refl
inner-closed l kind.Sign ks e = refl
inner-closed l kind.Rel ks e = refl
inner-closed l kind.Width ks e = refl
inner-closed l kind.Span ks e = refl
inner-closed l kind.Name ks e = refl
inner-closed l kind.Args ks e = refl
inner-closed l kind.Labels ks e = refl
inner-closed l kind.Exprs ks e = refl
inner-closed l kind.Accesses ks e = refl
inner-closed l kind.Members ks e = refl
inner-closed l kind.Stmts ks e = refl
inner-closed l kind.Arms ks e = refl
inner-closed l (kind.Hole s) ks e = refl
inner-closed l k ks e = cc

rule-closed : (out : Outside) (l : Local) (k : Kind) (w : List ℕ) (m : Marked) → is_body k ≡ true → rule (closed_place l) k w (seen out (closed_place l) k w) m ≡ rule l k w (seen out l k w) m
unfolding rule find
rule-closed out l kind.Cnumber w m e = refl
rule-closed out l kind.Cstring w m e = refl
rule-closed out l kind.Cname w m e = refl
rule-closed out l kind.Csign w m e = refl
rule-closed out l kind.Empty w m e = refl
rule-closed out l kind.Assign w m e = refl
rule-closed out l kind.Proc w m e = refl
rule-closed out l kind.Compound w m e = refl
rule-closed out l kind.If w m e = refl
rule-closed out l kind.Ifelse w m e = refl
rule-closed out l kind.Case w m e = refl
rule-closed out l kind.Arm w m e = refl
rule-closed out l kind.Repeat w m e = refl
rule-closed out l kind.While w m e = refl
rule-closed out l kind.For w m e = refl
rule-closed out l kind.With w m e = refl
rule-closed out l kind.Ref w m e = refl
rule-closed out l kind.Index w m e = refl
rule-closed out l kind.Select w m e = refl
rule-closed out l kind.Deref w m e = refl
rule-closed out l kind.Number w m e = refl
rule-closed out l kind.Text w m e = refl
rule-closed out l kind.Nil w m e = refl
rule-closed out l kind.Call w m e = refl
rule-closed out l kind.Parens w m e = refl
rule-closed out l kind.Not w m e = refl
rule-closed out l kind.Setcon w m e = refl
rule-closed out l kind.Mul w m e = refl
rule-closed out l kind.Add w m e = refl
rule-closed out l kind.Sign w m e = refl
rule-closed out l kind.Rel w m e = refl
rule-closed out l kind.Width w m e = refl
rule-closed out l kind.Span w m e = refl
rule-closed out l kind.Name w m e = refl
rule-closed out l kind.Args w m e = refl
rule-closed out l kind.Labels w m e = refl
rule-closed out l kind.Exprs w m e = refl
rule-closed out l kind.Accesses w m e = refl
rule-closed out l kind.Members w m e = refl
rule-closed out l kind.Stmts w m e = refl
rule-closed out l kind.Arms w m e = refl
rule-closed out l (kind.Hole s) w m e = refl
rule-closed out l k w m e = cc

-- what is found below a node
pub below-closed : (out : Outside) (l : Local) (t : Plain) → is_body t.kind ≡ true → below_at out (closed_place l) t ≡ below_at out l t
below-closed out l t e = ap (λ (q : Local). decorate out q t.kids) (inner-closed l t.kind t.kids e)

-- what is found at it
pub at-closed : (out : Outside) (l : Local) (t : Plain) → is_body t.kind ≡ true → attributes_at out (closed_place l) t ≡ attributes_at out l t
at-closed out l t e =
    at-node out (closed_place l) t
    ∙ ap (rule (closed_place l) t.kind t.word (seen out (closed_place l) t.kind t.word)) (below-closed out l t e)
    ∙ rule-closed out l t.kind t.word (below_at out l t) e
    ∙ sym (at-node out l t)

-- what is seen from it
pub sight-closed : (out : Outside) (l : Local) → sight_of out (closed_place l) ≡ sight_of out l
unfolding find
sight-closed out l = refl

-- from a closed place what was opened is seen as it is
pub sees-closed : (out : Outside) (l : Local) (s : Sight) → sight_of out l ≡ s → SeesFrom out (closed_place l) s
sees-closed out l s e = record { sight = sight-closed out l ∙ e; closed = refl }
