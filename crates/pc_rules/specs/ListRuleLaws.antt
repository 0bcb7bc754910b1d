-- The rule at each kind of list, and how trees in a row are decorated.
use Rattle.std.specs.Prelude.{◌≡◌, ℕ, List}
use Rattle.std.proofs.Common.{refl}
use Rattle.pc_syntax.specs.declared.kind.Kind.TheVariants as kind
use Rattle.pc_syntax.specs.declared.kind.Kind.{Kind}
use Rattle.pc_syntax.specs.Plain.{Forest, Nil, Cons}
use Rattle.pc_forms.specs.declared.form.Form.TheVariants as form
use Rattle.pc_rules.specs.Attributes.{Attributes, Marked, Done, Mark, nodes}
use Rattle.pc_rules.specs.Decorated.{Seen, seen, with_kind, rule_of, rule, decorate}
use Rattle.pc_rules.specs.Meanings.{Local, Outside}
use Rattle.pc_rules.specs.Places.{inner, beside}

-- no trees
pub decorate-none : (out : Outside) (l : Local) → decorate out l Nil ≡ Done
unfolding decorate
decorate-none out l = refl

-- a tree before others
pub decorate-more : (out : Outside) (l : Local) (k : Kind) (w : List ℕ) (ns : List (List ℕ)) (ks ts : Forest) → decorate out l (Cons k w ns ks ts) ≡ Mark (rule l k w (seen out l k w) (decorate out (inner l k ks) ks)) (decorate out (inner l k ks) ks) (decorate out (beside l k (rule l k w (seen out l k w) (decorate out (inner l k ks) ks))) ts)
unfolding decorate
decorate-more out l k w ns ks ts = refl

-- the kind of a node, and its word
pub rule-kind : (l : Local) (k : Kind) (w : List ℕ) (s : Seen) (m : Marked) → (rule l k w s m).kind ≡ k
unfolding rule
rule-kind l k w s m = refl

pub rule-word : (l : Local) (k : Kind) (w : List ℕ) (s : Seen) (m : Marked) → (rule l k w s m).word ≡ w
unfolding rule
rule-word l k w s m = refl

pub rule-heads : (l : Local) (w : List ℕ) (s : Seen) (m : Marked) → rule l kind.Heads w s m ≡ with_kind kind.Heads w (rule_of l s (form.Heads (nodes m)))
unfolding rule
rule-heads l w s m = refl

pub rule-args : (l : Local) (w : List ℕ) (s : Seen) (m : Marked) → rule l kind.Args w s m ≡ with_kind kind.Args w (rule_of l s (form.Args (nodes m)))
unfolding rule
rule-args l w s m = refl

pub rule-params : (l : Local) (w : List ℕ) (s : Seen) (m : Marked) → rule l kind.Params w s m ≡ with_kind kind.Params w (rule_of l s (form.Params (nodes m)))
unfolding rule
rule-params l w s m = refl

pub rule-names : (l : Local) (w : List ℕ) (s : Seen) (m : Marked) → rule l kind.Names w s m ≡ with_kind kind.Names w (rule_of l s (form.Names (nodes m)))
unfolding rule
rule-names l w s m = refl

pub rule-labels : (l : Local) (w : List ℕ) (s : Seen) (m : Marked) → rule l kind.Labels w s m ≡ with_kind kind.Labels w (rule_of l s (form.Labels (nodes m)))
unfolding rule
rule-labels l w s m = refl

pub rule-indexes : (l : Local) (w : List ℕ) (s : Seen) (m : Marked) → rule l kind.Indexes w s m ≡ with_kind kind.Indexes w (rule_of l s (form.Indexes (nodes m)))
unfolding rule
rule-indexes l w s m = refl

pub rule-exprs : (l : Local) (w : List ℕ) (s : Seen) (m : Marked) → rule l kind.Exprs w s m ≡ with_kind kind.Exprs w (rule_of l s (form.Exprs (nodes m)))
unfolding rule
rule-exprs l w s m = refl

pub rule-accesses : (l : Local) (w : List ℕ) (s : Seen) (m : Marked) → rule l kind.Accesses w s m ≡ with_kind kind.Accesses w (rule_of l s (form.Accesses (nodes m)))
unfolding rule
rule-accesses l w s m = refl

pub rule-members : (l : Local) (w : List ℕ) (s : Seen) (m : Marked) → rule l kind.Members w s m ≡ with_kind kind.Members w (rule_of l s (form.Members (nodes m)))
unfolding rule
rule-members l w s m = refl

pub rule-consts : (l : Local) (w : List ℕ) (s : Seen) (m : Marked) → rule l kind.Consts w s m ≡ with_kind kind.Consts w (rule_of l s (form.Consts (nodes m)))
unfolding rule
rule-consts l w s m = refl

pub rule-types : (l : Local) (w : List ℕ) (s : Seen) (m : Marked) → rule l kind.Types w s m ≡ with_kind kind.Types w (rule_of l s (form.Types (nodes m)))
unfolding rule
rule-types l w s m = refl

pub rule-vars : (l : Local) (w : List ℕ) (s : Seen) (m : Marked) → rule l kind.Vars w s m ≡ with_kind kind.Vars w (rule_of l s (form.Vars (nodes m)))
unfolding rule
rule-vars l w s m = refl

pub rule-routines : (l : Local) (w : List ℕ) (s : Seen) (m : Marked) → rule l kind.Routines w s m ≡ with_kind kind.Routines w (rule_of l s (form.Routines (nodes m)))
unfolding rule
rule-routines l w s m = refl

pub rule-fields : (l : Local) (w : List ℕ) (s : Seen) (m : Marked) → rule l kind.Fields w s m ≡ with_kind kind.Fields w (rule_of l s (form.Fields (nodes m)))
unfolding rule
rule-fields l w s m = refl

pub rule-stmts : (l : Local) (w : List ℕ) (s : Seen) (m : Marked) → rule l kind.Stmts w s m ≡ with_kind kind.Stmts w (rule_of l s (form.Stmts (nodes m)))
unfolding rule
rule-stmts l w s m = refl

pub rule-arms : (l : Local) (w : List ℕ) (s : Seen) (m : Marked) → rule l kind.Arms w s m ≡ with_kind kind.Arms w (rule_of l s (form.Arms (nodes m)))
unfolding rule
rule-arms l w s m = refl
