-- The rule at each kind of declaration, denoter and constant that has its kids.
use Rattle.std.specs.Prelude.{◌≡◌, ℕ, List}
use Rattle.std.proofs.Common.{refl}
use Rattle.pc_syntax.specs.declared.kind.Kind.TheVariants as kind
use Rattle.pc_forms.specs.declared.form.Form.TheVariants as form
use Rattle.pc_forms.specs.Operators.{sign_of}
use Rattle.pc_rules.specs.Attributes.{Attributes, Marked, Done, Mark}
use Rattle.pc_rules.specs.Decorated.{Seen, with_kind, rule_of, rule}
use Rattle.pc_rules.specs.Meanings.{Local}

pub rule-program : (l : Local) (w : List ℕ) (s : Seen) (a b c : Attributes) (v x y : Marked) → rule l kind.Program w s (Mark a v (Mark b x (Mark c y Done))) ≡ with_kind kind.Program w (rule_of l s (form.Program (record { at = a; below = v }) (record { at = b; below = x }) (record { at = c; below = y })))
unfolding rule
rule-program l w s a b c v x y = refl

pub rule-block : (l : Local) (w : List ℕ) (s : Seen) (a b c d e : Attributes) (v x y z t : Marked) → rule l kind.Block w s (Mark a v (Mark b x (Mark c y (Mark d z (Mark e t Done))))) ≡ with_kind kind.Block w (rule_of l s (form.Block (record { at = a; below = v }) (record { at = b; below = x }) (record { at = c; below = y }) (record { at = d; below = z }) (record { at = e; below = t })))
unfolding rule
rule-block l w s a b c d e v x y z t = refl

pub rule-forward : (l : Local) (w : List ℕ) (s : Seen) → rule l kind.Forward w s Done ≡ with_kind kind.Forward w (rule_of l s (form.Forward w))
unfolding rule
rule-forward l w s = refl

pub rule-constdef : (l : Local) (w : List ℕ) (s : Seen) (a b : Attributes) (v x : Marked) → rule l kind.Constdef w s (Mark a v (Mark b x Done)) ≡ with_kind kind.Constdef w (rule_of l s (form.Constdef (record { at = a; below = v }) (record { at = b; below = x })))
unfolding rule
rule-constdef l w s a b v x = refl

pub rule-typedef : (l : Local) (w : List ℕ) (s : Seen) (a b : Attributes) (v x : Marked) → rule l kind.Typedef w s (Mark a v (Mark b x Done)) ≡ with_kind kind.Typedef w (rule_of l s (form.Typedef (record { at = a; below = v }) (record { at = b; below = x })))
unfolding rule
rule-typedef l w s a b v x = refl

pub rule-vardef : (l : Local) (w : List ℕ) (s : Seen) (a b : Attributes) (v x : Marked) → rule l kind.Vardef w s (Mark a v (Mark b x Done)) ≡ with_kind kind.Vardef w (rule_of l s (form.Vardef (record { at = a; below = v }) (record { at = b; below = x })))
unfolding rule
rule-vardef l w s a b v x = refl

pub rule-field : (l : Local) (w : List ℕ) (s : Seen) (a b : Attributes) (v x : Marked) → rule l kind.Field w s (Mark a v (Mark b x Done)) ≡ with_kind kind.Field w (rule_of l s (form.Field (record { at = a; below = v }) (record { at = b; below = x })))
unfolding rule
rule-field l w s a b v x = refl

pub rule-valparam : (l : Local) (w : List ℕ) (s : Seen) (a b : Attributes) (v x : Marked) → rule l kind.Valparam w s (Mark a v (Mark b x Done)) ≡ with_kind kind.Valparam w (rule_of l s (form.Valparam (record { at = a; below = v }) (record { at = b; below = x })))
unfolding rule
rule-valparam l w s a b v x = refl

pub rule-varparam : (l : Local) (w : List ℕ) (s : Seen) (a b : Attributes) (v x : Marked) → rule l kind.Varparam w s (Mark a v (Mark b x Done)) ≡ with_kind kind.Varparam w (rule_of l s (form.Varparam (record { at = a; below = v }) (record { at = b; below = x })))
unfolding rule
rule-varparam l w s a b v x = refl

pub rule-procedure : (l : Local) (w : List ℕ) (s : Seen) (a b c : Attributes) (v x y : Marked) → rule l kind.Procedure w s (Mark a v (Mark b x (Mark c y Done))) ≡ with_kind kind.Procedure w (rule_of l s (form.Procedure (record { at = a; below = v }) (record { at = b; below = x }) (record { at = c; below = y })))
unfolding rule
rule-procedure l w s a b c v x y = refl

pub rule-function : (l : Local) (w : List ℕ) (s : Seen) (a b c d : Attributes) (v x y z : Marked) → rule l kind.Function w s (Mark a v (Mark b x (Mark c y (Mark d z Done)))) ≡ with_kind kind.Function w (rule_of l s (form.Function (record { at = a; below = v }) (record { at = b; below = x }) (record { at = c; below = y }) (record { at = d; below = z })))
unfolding rule
rule-function l w s a b c d v x y z = refl

pub rule-funbody : (l : Local) (w : List ℕ) (s : Seen) (a b : Attributes) (v x : Marked) → rule l kind.Funbody w s (Mark a v (Mark b x Done)) ≡ with_kind kind.Funbody w (rule_of l s (form.Funbody (record { at = a; below = v }) (record { at = b; below = x })))
unfolding rule
rule-funbody l w s a b v x = refl

pub rule-tname : (l : Local) (w : List ℕ) (s : Seen) (a : Attributes) (v : Marked) → rule l kind.Tname w s (Mark a v Done) ≡ with_kind kind.Tname w (rule_of l s (form.Tname (record { at = a; below = v })))
unfolding rule
rule-tname l w s a v = refl

pub rule-enum : (l : Local) (w : List ℕ) (s : Seen) (a : Attributes) (v : Marked) → rule l kind.Enum w s (Mark a v Done) ≡ with_kind kind.Enum w (rule_of l s (form.Enum (record { at = a; below = v })))
unfolding rule
rule-enum l w s a v = refl

pub rule-subrange : (l : Local) (w : List ℕ) (s : Seen) (a b : Attributes) (v x : Marked) → rule l kind.Subrange w s (Mark a v (Mark b x Done)) ≡ with_kind kind.Subrange w (rule_of l s (form.Subrange (record { at = a; below = v }) (record { at = b; below = x })))
unfolding rule
rule-subrange l w s a b v x = refl

pub rule-array : (l : Local) (w : List ℕ) (s : Seen) (a b : Attributes) (v x : Marked) → rule l kind.Array w s (Mark a v (Mark b x Done)) ≡ with_kind kind.Array w (rule_of l s (form.Array (record { at = a; below = v }) (record { at = b; below = x })))
unfolding rule
rule-array l w s a b v x = refl

pub rule-record : (l : Local) (w : List ℕ) (s : Seen) (a : Attributes) (v : Marked) → rule l kind.Record w s (Mark a v Done) ≡ with_kind kind.Record w (rule_of l s (form.Record (record { at = a; below = v })))
unfolding rule
rule-record l w s a v = refl

pub rule-record0 : (l : Local) (w : List ℕ) (s : Seen) → rule l kind.Record0 w s Done ≡ with_kind kind.Record0 w (rule_of l s form.Record0)
unfolding rule
rule-record0 l w s = refl

pub rule-setof : (l : Local) (w : List ℕ) (s : Seen) (a : Attributes) (v : Marked) → rule l kind.Setof w s (Mark a v Done) ≡ with_kind kind.Setof w (rule_of l s (form.Setof (record { at = a; below = v })))
unfolding rule
rule-setof l w s a v = refl

pub rule-packed : (l : Local) (w : List ℕ) (s : Seen) (a : Attributes) (v : Marked) → rule l kind.Packed w s (Mark a v Done) ≡ with_kind kind.Packed w (rule_of l s (form.Packed (record { at = a; below = v })))
unfolding rule
rule-packed l w s a v = refl

pub rule-pointer : (l : Local) (w : List ℕ) (s : Seen) (a : Attributes) (v : Marked) → rule l kind.Pointer w s (Mark a v Done) ≡ with_kind kind.Pointer w (rule_of l s (form.Pointer (record { at = a; below = v })))
unfolding rule
rule-pointer l w s a v = refl

pub rule-cnumber : (l : Local) (w : List ℕ) (s : Seen) → rule l kind.Cnumber w s Done ≡ with_kind kind.Cnumber w (rule_of l s (form.Cnumber w))
unfolding rule
rule-cnumber l w s = refl

pub rule-cstring : (l : Local) (w : List ℕ) (s : Seen) → rule l kind.Cstring w s Done ≡ with_kind kind.Cstring w (rule_of l s (form.Cstring w))
unfolding rule
rule-cstring l w s = refl

pub rule-cname : (l : Local) (w : List ℕ) (s : Seen) (a : Attributes) (v : Marked) → rule l kind.Cname w s (Mark a v Done) ≡ with_kind kind.Cname w (rule_of l s (form.Cname (record { at = a; below = v })))
unfolding rule
rule-cname l w s a v = refl

pub rule-csign : (l : Local) (w : List ℕ) (s : Seen) (a : Attributes) (v : Marked) → rule l kind.Csign w s (Mark a v Done) ≡ with_kind kind.Csign w (rule_of l s (form.Csign (sign_of w) (record { at = a; below = v })))
unfolding rule
rule-csign l w s a v = refl
