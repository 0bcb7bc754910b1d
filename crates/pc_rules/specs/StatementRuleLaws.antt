-- The rule at each kind of statement and expression that has its kids, at a name and at a hole.
use Rattle.std.specs.Prelude.{◌≡◌, ℕ, List}
use Rattle.std.proofs.Common.{refl}
use Rattle.pc_syntax.specs.declared.kind.Kind.TheVariants as kind
use Rattle.pc_syntax.specs.declared.sort.Sort.{Sort}
use Rattle.pc_forms.specs.declared.form.Form.TheVariants as form
use Rattle.pc_forms.specs.Operators.{is_downto, sign_of, mul_of, add_of, rel_of}
use Rattle.pc_rules.specs.Attributes.{Attributes, Marked, Done, Mark}
use Rattle.pc_rules.specs.Decorated.{Seen, with_kind, rule_of, rule}
use Rattle.pc_rules.specs.Meanings.{Local}

pub rule-empty : (l : Local) (w : List ℕ) (s : Seen) → rule l kind.Empty w s Done ≡ with_kind kind.Empty w (rule_of l s form.Empty)
unfolding rule
rule-empty l w s = refl

pub rule-assign : (l : Local) (w : List ℕ) (s : Seen) (a b : Attributes) (v x : Marked) → rule l kind.Assign w s (Mark a v (Mark b x Done)) ≡ with_kind kind.Assign w (rule_of l s (form.Assign (record { at = a; below = v }) (record { at = b; below = x })))
unfolding rule
rule-assign l w s a b v x = refl

pub rule-proc : (l : Local) (w : List ℕ) (s : Seen) (a b : Attributes) (v x : Marked) → rule l kind.Proc w s (Mark a v (Mark b x Done)) ≡ with_kind kind.Proc w (rule_of l s (form.Proc (record { at = a; below = v }) (record { at = b; below = x })))
unfolding rule
rule-proc l w s a b v x = refl

pub rule-compound : (l : Local) (w : List ℕ) (s : Seen) (a : Attributes) (v : Marked) → rule l kind.Compound w s (Mark a v Done) ≡ with_kind kind.Compound w (rule_of l s (form.Compound (record { at = a; below = v })))
unfolding rule
rule-compound l w s a v = refl

pub rule-if : (l : Local) (w : List ℕ) (s : Seen) (a b : Attributes) (v x : Marked) → rule l kind.If w s (Mark a v (Mark b x Done)) ≡ with_kind kind.If w (rule_of l s (form.If (record { at = a; below = v }) (record { at = b; below = x })))
unfolding rule
rule-if l w s a b v x = refl

pub rule-ifelse : (l : Local) (w : List ℕ) (s : Seen) (a b c : Attributes) (v x y : Marked) → rule l kind.Ifelse w s (Mark a v (Mark b x (Mark c y Done))) ≡ with_kind kind.Ifelse w (rule_of l s (form.Ifelse (record { at = a; below = v }) (record { at = b; below = x }) (record { at = c; below = y })))
unfolding rule
rule-ifelse l w s a b c v x y = refl

pub rule-case : (l : Local) (w : List ℕ) (s : Seen) (a b : Attributes) (v x : Marked) → rule l kind.Case w s (Mark a v (Mark b x Done)) ≡ with_kind kind.Case w (rule_of l s (form.Case (record { at = a; below = v }) (record { at = b; below = x })))
unfolding rule
rule-case l w s a b v x = refl

pub rule-arm : (l : Local) (w : List ℕ) (s : Seen) (a b : Attributes) (v x : Marked) → rule l kind.Arm w s (Mark a v (Mark b x Done)) ≡ with_kind kind.Arm w (rule_of l s (form.Arm (record { at = a; below = v }) (record { at = b; below = x })))
unfolding rule
rule-arm l w s a b v x = refl

pub rule-repeat : (l : Local) (w : List ℕ) (s : Seen) (a b : Attributes) (v x : Marked) → rule l kind.Repeat w s (Mark a v (Mark b x Done)) ≡ with_kind kind.Repeat w (rule_of l s (form.Repeat (record { at = a; below = v }) (record { at = b; below = x })))
unfolding rule
rule-repeat l w s a b v x = refl

pub rule-while : (l : Local) (w : List ℕ) (s : Seen) (a b : Attributes) (v x : Marked) → rule l kind.While w s (Mark a v (Mark b x Done)) ≡ with_kind kind.While w (rule_of l s (form.While (record { at = a; below = v }) (record { at = b; below = x })))
unfolding rule
rule-while l w s a b v x = refl

pub rule-for : (l : Local) (w : List ℕ) (s : Seen) (a b c d : Attributes) (v x y z : Marked) → rule l kind.For w s (Mark a v (Mark b x (Mark c y (Mark d z Done)))) ≡ with_kind kind.For w (rule_of l s (form.For (record { at = a; below = v }) (record { at = b; below = x }) (is_downto w) (record { at = c; below = y }) (record { at = d; below = z })))
unfolding rule
rule-for l w s a b c d v x y z = refl

pub rule-with : (l : Local) (w : List ℕ) (s : Seen) (a b : Attributes) (v x : Marked) → rule l kind.With w s (Mark a v (Mark b x Done)) ≡ with_kind kind.With w (rule_of l s (form.With (record { at = a; below = v }) (record { at = b; below = x })))
unfolding rule
rule-with l w s a b v x = refl

pub rule-ref : (l : Local) (w : List ℕ) (s : Seen) (a : Attributes) (v : Marked) → rule l kind.Ref w s (Mark a v Done) ≡ with_kind kind.Ref w (rule_of l s (form.Ref (record { at = a; below = v })))
unfolding rule
rule-ref l w s a v = refl

pub rule-index : (l : Local) (w : List ℕ) (s : Seen) (a b : Attributes) (v x : Marked) → rule l kind.Index w s (Mark a v (Mark b x Done)) ≡ with_kind kind.Index w (rule_of l s (form.Index (record { at = a; below = v }) (record { at = b; below = x })))
unfolding rule
rule-index l w s a b v x = refl

pub rule-select : (l : Local) (w : List ℕ) (s : Seen) (a b : Attributes) (v x : Marked) → rule l kind.Select w s (Mark a v (Mark b x Done)) ≡ with_kind kind.Select w (rule_of l s (form.Select (record { at = a; below = v }) (record { at = b; below = x })))
unfolding rule
rule-select l w s a b v x = refl

pub rule-deref : (l : Local) (w : List ℕ) (s : Seen) (a : Attributes) (v : Marked) → rule l kind.Deref w s (Mark a v Done) ≡ with_kind kind.Deref w (rule_of l s (form.Deref (record { at = a; below = v })))
unfolding rule
rule-deref l w s a v = refl

pub rule-number : (l : Local) (w : List ℕ) (s : Seen) → rule l kind.Number w s Done ≡ with_kind kind.Number w (rule_of l s (form.Number w))
unfolding rule
rule-number l w s = refl

pub rule-text : (l : Local) (w : List ℕ) (s : Seen) → rule l kind.Text w s Done ≡ with_kind kind.Text w (rule_of l s (form.Text w))
unfolding rule
rule-text l w s = refl

pub rule-nil : (l : Local) (w : List ℕ) (s : Seen) → rule l kind.Nil w s Done ≡ with_kind kind.Nil w (rule_of l s form.Nil)
unfolding rule
rule-nil l w s = refl

pub rule-call : (l : Local) (w : List ℕ) (s : Seen) (a b : Attributes) (v x : Marked) → rule l kind.Call w s (Mark a v (Mark b x Done)) ≡ with_kind kind.Call w (rule_of l s (form.Call (record { at = a; below = v }) (record { at = b; below = x })))
unfolding rule
rule-call l w s a b v x = refl

pub rule-parens : (l : Local) (w : List ℕ) (s : Seen) (a : Attributes) (v : Marked) → rule l kind.Parens w s (Mark a v Done) ≡ with_kind kind.Parens w (rule_of l s (form.Parens (record { at = a; below = v })))
unfolding rule
rule-parens l w s a v = refl

pub rule-not : (l : Local) (w : List ℕ) (s : Seen) (a : Attributes) (v : Marked) → rule l kind.Not w s (Mark a v Done) ≡ with_kind kind.Not w (rule_of l s (form.Not (record { at = a; below = v })))
unfolding rule
rule-not l w s a v = refl

pub rule-setcon : (l : Local) (w : List ℕ) (s : Seen) (a : Attributes) (v : Marked) → rule l kind.Setcon w s (Mark a v Done) ≡ with_kind kind.Setcon w (rule_of l s (form.Setcon (record { at = a; below = v })))
unfolding rule
rule-setcon l w s a v = refl

pub rule-mul : (l : Local) (w : List ℕ) (s : Seen) (a b : Attributes) (v x : Marked) → rule l kind.Mul w s (Mark a v (Mark b x Done)) ≡ with_kind kind.Mul w (rule_of l s (form.Mul (record { at = a; below = v }) (mul_of w) (record { at = b; below = x })))
unfolding rule
rule-mul l w s a b v x = refl

pub rule-add : (l : Local) (w : List ℕ) (s : Seen) (a b : Attributes) (v x : Marked) → rule l kind.Add w s (Mark a v (Mark b x Done)) ≡ with_kind kind.Add w (rule_of l s (form.Add (record { at = a; below = v }) (add_of w) (record { at = b; below = x })))
unfolding rule
rule-add l w s a b v x = refl

pub rule-sign : (l : Local) (w : List ℕ) (s : Seen) (a : Attributes) (v : Marked) → rule l kind.Sign w s (Mark a v Done) ≡ with_kind kind.Sign w (rule_of l s (form.Sign (sign_of w) (record { at = a; below = v })))
unfolding rule
rule-sign l w s a v = refl

pub rule-rel : (l : Local) (w : List ℕ) (s : Seen) (a b : Attributes) (v x : Marked) → rule l kind.Rel w s (Mark a v (Mark b x Done)) ≡ with_kind kind.Rel w (rule_of l s (form.Rel (record { at = a; below = v }) (rel_of w) (record { at = b; below = x })))
unfolding rule
rule-rel l w s a b v x = refl

pub rule-width : (l : Local) (w : List ℕ) (s : Seen) (a b : Attributes) (v x : Marked) → rule l kind.Width w s (Mark a v (Mark b x Done)) ≡ with_kind kind.Width w (rule_of l s (form.Width (record { at = a; below = v }) (record { at = b; below = x })))
unfolding rule
rule-width l w s a b v x = refl

pub rule-span : (l : Local) (w : List ℕ) (s : Seen) (a b : Attributes) (v x : Marked) → rule l kind.Span w s (Mark a v (Mark b x Done)) ≡ with_kind kind.Span w (rule_of l s (form.Span (record { at = a; below = v }) (record { at = b; below = x })))
unfolding rule
rule-span l w s a b v x = refl

pub rule-name : (l : Local) (w : List ℕ) (s : Seen) → rule l kind.Name w s Done ≡ with_kind kind.Name w (rule_of l s (form.Name w))
unfolding rule
rule-name l w s = refl

pub rule-hole : (l : Local) (w : List ℕ) (s : Seen) (sort : Sort) → rule l (kind.Hole sort) w s Done ≡ with_kind (kind.Hole sort) w (rule_of l s (form.Hole sort))
unfolding rule
rule-hole l w s sort = refl
