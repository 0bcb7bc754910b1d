-- All nodes of a statement part see the same of its place, but for the fields that a with opens.
use Rattle.std.proofs.Common.{◌≡◌, ℕ, List, [], ◌∷◌, ◌++◌, Bool, true, false, if◌then◌else◌, Option, Some, None, refl, ap, sym, ◌∙◌}
use Rattle.pc_syntax.specs.Plain.{Forest, Plain}
use Rattle.pc_syntax.specs.declared.kind.Kind.{Kind}
use Rattle.pc_syntax.specs.declared.kind.Kind.TheVariants as kind
use Rattle.pc_types.specs.Shapes.{Typed}
use Rattle.pc_rules.specs.Meanings.{Local, Outside, find, define_all}
use Rattle.pc_rules.specs.Attributes.{Attributes}
use Rattle.pc_rules.specs.Places.{inner, beside}
use Rattle.pc_environment.specs.Sight.{Sight, sight_of, is_body}

-- below a node
pub sight-inner : (out : Outside) (l : Local) (k : Kind) (ks : Forest) → is_body k ≡ true → sight_of out (inner l k ks) ≡ sight_of out l
unfolding find
sight-inner out l kind.Cnumber ks e = refl
sight-inner out l kind.Cstring ks e = refl
sight-inner out l kind.Cname ks e = refl
sight-inner out l kind.Csign ks e = refl
sight-inner out l kind.Empty ks e = refl
sight-inner out l kind.Assign ks e = refl
sight-inner out l kind.Proc ks e = refl
sight-inner out l kind.Compound ks e = refl
sight-inner out l kind.If ks e = refl
sight-inner out l kind.Ifelse ks e = refl
sight-inner out l kind.Case ks e = refl
sight-inner out l kind.Arm ks e = refl
sight-inner out l kind.Repeat ks e = refl
sight-inner out l kind.While ks e = refl
sight-inner out l kind.For ks e = refl
sight-inner out l kind.With ks e = refl
sight-inner out l kind.Ref ks e = refl
sight-inner out l kind.Index ks e = refl
sight-inner out l kind.Select ks e = refl
sight-inner out l kind.Deref ks e = refl
sight-inner out l kind.Number ks e = refl
sight-inner out l kind.Text ks e = refl
sight-inner out l kind.Nil ks e = refl
sight-inner out l kind.Call ks e = refl
sight-inner out l kind.Parens ks e = refl
sight-inner out l kind.Not ks e = refl
sight-inner out l kind.Setcon ks e = refl
sight-inner out l kind.Mul ks e = refl
sight-inner out l kind.Add ks e = refl
sight-inner out l kind.Sign ks e = refl
sight-inner out l kind.Rel ks e = refl
sight-inner out l kind.Width ks e = refl
sight-inner out l kind.Span ks e = refl
sight-inner out l kind.Name ks e = refl
sight-inner out l kind.Args ks e = refl
sight-inner out l kind.Labels ks e = refl
sight-inner out l kind.Exprs ks e = refl
sight-inner out l kind.Accesses ks e = refl
sight-inner out l kind.Members ks e = refl
sight-inner out l kind.Stmts ks e = refl
sight-inner out l kind.Arms ks e = refl
sight-inner out l (kind.Hole s) ks e = refl
sight-inner out l k ks e = cc

-- behind a node that declares nothing, where the kids open no records
pub sight-behind : (out : Outside) (l : Local) (k : Kind) (a : Attributes) → is_body k ≡ true → a.defines ≡ [] → l.opening ≡ false → sight_of out (beside l k a) ≡ sight_of out l
unfolding find
sight-behind out l kind.Cnumber a e d o = λ i. sight_of out (record (define_all l (d i)) { fields = if o i then a.opens ++ l.fields else l.fields })
sight-behind out l kind.Cstring a e d o = λ i. sight_of out (record (define_all l (d i)) { fields = if o i then a.opens ++ l.fields else l.fields })
sight-behind out l kind.Cname a e d o = λ i. sight_of out (record (define_all l (d i)) { fields = if o i then a.opens ++ l.fields else l.fields })
sight-behind out l kind.Csign a e d o = λ i. sight_of out (record (define_all l (d i)) { fields = if o i then a.opens ++ l.fields else l.fields })
sight-behind out l kind.Empty a e d o = λ i. sight_of out (record (define_all l (d i)) { fields = if o i then a.opens ++ l.fields else l.fields })
sight-behind out l kind.Assign a e d o = λ i. sight_of out (record (define_all l (d i)) { fields = if o i then a.opens ++ l.fields else l.fields })
sight-behind out l kind.Proc a e d o = λ i. sight_of out (record (define_all l (d i)) { fields = if o i then a.opens ++ l.fields else l.fields })
sight-behind out l kind.Compound a e d o = λ i. sight_of out (record (define_all l (d i)) { fields = if o i then a.opens ++ l.fields else l.fields })
sight-behind out l kind.If a e d o = λ i. sight_of out (record (define_all l (d i)) { fields = if o i then a.opens ++ l.fields else l.fields })
sight-behind out l kind.Ifelse a e d o = λ i. sight_of out (record (define_all l (d i)) { fields = if o i then a.opens ++ l.fields else l.fields })
sight-behind out l kind.Case a e d o = λ i. sight_of out (record (define_all l (d i)) { fields = if o i then a.opens ++ l.fields else l.fields })
sight-behind out l kind.Arm a e d o = λ i. sight_of out (record (define_all l (d i)) { fields = if o i then a.opens ++ l.fields else l.fields })
sight-behind out l kind.Repeat a e d o = λ i. sight_of out (record (define_all l (d i)) { fields = if o i then a.opens ++ l.fields else l.fields })
sight-behind out l kind.While a e d o = λ i. sight_of out (record (define_all l (d i)) { fields = if o i then a.opens ++ l.fields else l.fields })
sight-behind out l kind.For a e d o = λ i. sight_of out (record (define_all l (d i)) { fields = if o i then a.opens ++ l.fields else l.fields })
sight-behind out l kind.With a e d o = λ i. sight_of out (record (define_all l (d i)) { fields = if o i then a.opens ++ l.fields else l.fields })
sight-behind out l kind.Ref a e d o = λ i. sight_of out (record (define_all l (d i)) { fields = if o i then a.opens ++ l.fields else l.fields })
sight-behind out l kind.Index a e d o = λ i. sight_of out (record (define_all l (d i)) { fields = if o i then a.opens ++ l.fields else l.fields })
sight-behind out l kind.Select a e d o = λ i. sight_of out (record (define_all l (d i)) { fields = if o i then a.opens ++ l.fields else l.fields })
sight-behind out l kind.Deref a e d o = λ i. sight_of out (record (define_all l (d i)) { fields = if o i then a.opens ++ l.fields else l.fields })
sight-behind out l kind.Number a e d o = λ i. sight_of out (record (define_all l (d i)) { fields = if o i then a.opens ++ l.fields else l.fields })
sight-behind out l kind.Text a e d o = λ i. sight_of out (record (define_all l (d i)) { fields = if o i then a.opens ++ l.fields else l.fields })
sight-behind out l kind.Nil a e d o = λ i. sight_of out (record (define_all l (d i)) { fields = if o i then a.opens ++ l.fields else l.fields })
sight-behind out l kind.Call a e d o = λ i. sight_of out (record (define_all l (d i)) { fields = if o i then a.opens ++ l.fields else l.fields })
sight-behind out l kind.Parens a e d o = λ i. sight_of out (record (define_all l (d i)) { fields = if o i then a.opens ++ l.fields else l.fields })
sight-behind out l kind.Not a e d o = λ i. sight_of out (record (define_all l (d i)) { fields = if o i then a.opens ++ l.fields else l.fields })
sight-behind out l kind.Setcon a e d o = λ i. sight_of out (record (define_all l (d i)) { fields = if o i then a.opens ++ l.fields else l.fields })
sight-behind out l kind.Mul a e d o = λ i. sight_of out (record (define_all l (d i)) { fields = if o i then a.opens ++ l.fields else l.fields })
sight-behind out l kind.Add a e d o = λ i. sight_of out (record (define_all l (d i)) { fields = if o i then a.opens ++ l.fields else l.fields })
sight-behind out l kind.Sign a e d o = λ i. sight_of out (record (define_all l (d i)) { fields = if o i then a.opens ++ l.fields else l.fields })
sight-behind out l kind.Rel a e d o = λ i. sight_of out (record (define_all l (d i)) { fields = if o i then a.opens ++ l.fields else l.fields })
sight-behind out l kind.Width a e d o = λ i. sight_of out (record (define_all l (d i)) { fields = if o i then a.opens ++ l.fields else l.fields })
sight-behind out l kind.Span a e d o = λ i. sight_of out (record (define_all l (d i)) { fields = if o i then a.opens ++ l.fields else l.fields })
sight-behind out l kind.Name a e d o = λ i. sight_of out (record (define_all l (d i)) { fields = if o i then a.opens ++ l.fields else l.fields })
sight-behind out l kind.Args a e d o = λ i. sight_of out (record (define_all l (d i)) { fields = if o i then a.opens ++ l.fields else l.fields })
sight-behind out l kind.Labels a e d o = λ i. sight_of out (record (define_all l (d i)) { fields = if o i then a.opens ++ l.fields else l.fields })
sight-behind out l kind.Exprs a e d o = λ i. sight_of out (record (define_all l (d i)) { fields = if o i then a.opens ++ l.fields else l.fields })
sight-behind out l kind.Accesses a e d o = λ i. sight_of out (record (define_all l (d i)) { fields = if o i then a.opens ++ l.fields else l.fields })
sight-behind out l kind.Members a e d o = λ i. sight_of out (record (define_all l (d i)) { fields = if o i then a.opens ++ l.fields else l.fields })
sight-behind out l kind.Stmts a e d o = λ i. sight_of out (record (define_all l (d i)) { fields = if o i then a.opens ++ l.fields else l.fields })
sight-behind out l kind.Arms a e d o = λ i. sight_of out (record (define_all l (d i)) { fields = if o i then a.opens ++ l.fields else l.fields })
sight-behind out l (kind.Hole s) a e d o = λ i. sight_of out (record l { fields = if o i then a.opens ++ l.fields else l.fields })
sight-behind out l k a e d o = cc
