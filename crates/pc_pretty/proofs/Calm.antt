-- With what a node begins that may bear notes: with a symbol of its own, or with a kid in which no node that begins there bears any.
use Rattle.std.proofs.Common.{◌≡◌, ℕ, zero, suc, Bool, true, false, ◌||◌, inl, inr, List, [], ◌∷◌, ◌++◌, Option, Some, None, refl}
use Rattle.std.specs.Str.{bytes_eq}
use Rattle.std.proofs.lemmas.Bool.{cases_Bool}
use Rattle.pc_syntax.specs.declared.kind.Kind.{Kind}
use Rattle.pc_syntax.specs.declared.kind.Kind.TheVariants as kind
use Rattle.pc_syntax.specs.declared.sort.Sort.TheVariants as sort
use Rattle.pc_syntax.specs.declared.class.Class.{Class}
use Rattle.pc_syntax.specs.declared.class.Class.TheVariants as class
use Rattle.pc_syntax.specs.declared.lexeme.Lexeme.{Lexeme}
use Rattle.pc_syntax.specs.declared.lexeme.Lexeme.TheVariants as lexeme
use Rattle.pc_syntax.specs.declared.item.Item.{Item}
use Rattle.pc_syntax.specs.declared.item.Item.TheVariants.{Literal, Word, Kid}
use Rattle.pc_syntax.specs.Spellings.{spelling_of}
use Rattle.pc_syntax.specs.Layout.{wordless, spelled, operator, around, last_semicolon, layout}
use Rattle.pc_syntax.specs.Classes.{has}
use Rattle.pc_syntax.specs.Sorts.{bears_notes}
use Rattle.pc_layout.specs.Noted.{keeps_notes}

-- kinds of which neither a node nor one that begins where it does bears notes
abbrev pub is_calm : Kind → Bool
is_calm kind.Name = true
is_calm kind.Names = true
is_calm kind.Labels = true
is_calm kind.Cnumber = true
is_calm kind.Cstring = true
is_calm kind.Cname = true
is_calm kind.Csign = true
is_calm kind.Ref = true
is_calm kind.Index = true
is_calm kind.Select = true
is_calm kind.Deref = true
is_calm (kind.Hole sort.Expression) = true
is_calm (kind.Hole sort.Constant) = true
is_calm (kind.Hole sort.Name) = true
is_calm _ = false

-- classes of such kinds alone
abbrev pub class_calm : Class → Bool
class_calm class.Name = true
class_calm class.Names = true
class_calm class.Labels = true
class_calm class.Constant = true
class_calm class.Access = true
class_calm _ = false

-- the first item is a symbol, or a kid of such a class
abbrev pub first_calm : List Item → Bool
first_calm [] = false
first_calm (Literal x ∷ is) = true
first_calm (Word x ∷ is) = true
first_calm (Kid c ∷ is) = class_calm c

abbrev pub calm_row : Option (List Item) → Bool
calm_row None = true
calm_row (Some is) = first_calm is

pub calm_bears_none : (k : Kind) → is_calm k ≡ true → bears_notes k ≡ false
calm_bears_none kind.Name h = refl
calm_bears_none (kind.Hole sort.Expression) h = refl
calm_bears_none (kind.Hole sort.Constant) h = refl
calm_bears_none (kind.Hole sort.Name) h = refl
calm_bears_none (kind.Hole _) h = cc
calm_bears_none _ h = cc

calm_name : (k : Kind) → has class.Name k ≡ true → is_calm k ≡ true
calm_name kind.Name h = refl
calm_name (kind.Hole sort.Name) h = refl
calm_name (kind.Hole _) h = cc
calm_name _ h = cc

calm_names : (k : Kind) → has class.Names k ≡ true → is_calm k ≡ true
calm_names kind.Names h = refl
calm_names _ h = cc

calm_labels : (k : Kind) → has class.Labels k ≡ true → is_calm k ≡ true
calm_labels kind.Labels h = refl
calm_labels _ h = cc

calm_constant : (k : Kind) → has class.Constant k ≡ true → is_calm k ≡ true
calm_constant kind.Cstring h = refl
calm_constant (kind.Hole sort.Constant) h = refl
calm_constant (kind.Hole _) h = cc
calm_constant _ h = cc

calm_access : (k : Kind) → has class.Access k ≡ true → is_calm k ≡ true
calm_access kind.Ref h = refl
calm_access (kind.Hole sort.Expression) h = refl
calm_access (kind.Hole _) h = cc
calm_access _ h = cc

pub calm_kid : (c : Class) (k : Kind) → class_calm c ≡ true → has c k ≡ true → is_calm k ≡ true
calm_kid class.Name k e h = calm_name k h
calm_kid class.Names k e h = calm_names k h
calm_kid class.Labels k e h = calm_labels k h
calm_kid class.Constant k e h = calm_constant k h
calm_kid class.Access k e h = calm_access k h
calm_kid _ k e h = cc

wordless_row : (w : List ℕ) (o : Option (List Item)) → calm_row o ≡ true → calm_row (wordless w o) ≡ true
wordless_row [] o h = h
wordless_row (b ∷ w) o h = refl

spelled_row : (b : Bool) (x : Lexeme) → calm_row (spelled b x) ≡ true
spelled_row true x = refl
spelled_row false x = refl

around_row : (o : Option Lexeme) (before behind : List Item) → ((x : Lexeme) → first_calm (before ++ Literal x ∷ behind) ≡ true) → calm_row (around o before behind) ≡ true
around_row None before behind h = refl
around_row (Some x) before behind h = h x

last_row : (w : List ℕ) (x : Lexeme) (before behind : List Item) → calm_row (last_semicolon w (Literal x ∷ before) behind) ≡ true
last_row [] x before behind = refl
last_row (b ∷ w) x before behind = elim (cases_Bool (bytes_eq (b ∷ w) (spelling_of lexeme.Semicolon))) [ inl e ↦ rw e refl | inr e ↦ rw e refl ]

-- so begins every node that bears notes, and every one that begins where such a node does
pub begins_calm : (k : Kind) (w : List ℕ) (n : ℕ) → (keeps_notes k n || is_calm k) ≡ true → calm_row (layout k w n) ≡ true
begins_calm kind.Program w n h = wordless_row w (layout kind.Program [] n) refl
begins_calm kind.Consts w zero h = cc
begins_calm kind.Consts w (suc n) h = wordless_row w (layout kind.Consts [] (suc n)) refl
begins_calm kind.Types w zero h = cc
begins_calm kind.Types w (suc n) h = wordless_row w (layout kind.Types [] (suc n)) refl
begins_calm kind.Vars w zero h = cc
begins_calm kind.Vars w (suc n) h = wordless_row w (layout kind.Vars [] (suc n)) refl
begins_calm kind.Constdef w n h = wordless_row w (layout kind.Constdef [] n) refl
begins_calm kind.Typedef w n h = wordless_row w (layout kind.Typedef [] n) refl
begins_calm kind.Vardef w n h = wordless_row w (layout kind.Vardef [] n) refl
begins_calm kind.Field w n h = wordless_row w (layout kind.Field [] n) refl
begins_calm kind.Procedure w n h = wordless_row w (layout kind.Procedure [] n) refl
begins_calm kind.Function w n h = wordless_row w (layout kind.Function [] n) refl
begins_calm kind.Funbody w n h = wordless_row w (layout kind.Funbody [] n) refl
begins_calm kind.Arm w n h = wordless_row w (layout kind.Arm [] n) refl
begins_calm kind.Assign w n h = wordless_row w (layout kind.Assign [] n) refl
begins_calm kind.Proc w n h = wordless_row w (layout kind.Proc [] n) refl
begins_calm kind.Compound w n h = wordless_row w (layout kind.Compound [] n) refl
begins_calm kind.If w n h = wordless_row w (layout kind.If [] n) refl
begins_calm kind.Ifelse w n h = wordless_row w (layout kind.Ifelse [] n) refl
begins_calm kind.Case w n h = last_row w lexeme.KeyCase (Kid class.Expression ∷ Literal lexeme.KeyOf ∷ Kid class.Arms ∷ []) (Literal lexeme.KeyEnd ∷ [])
begins_calm kind.Repeat w n h = wordless_row w (layout kind.Repeat [] n) refl
begins_calm kind.While w n h = wordless_row w (layout kind.While [] n) refl
begins_calm kind.For w n h = around_row (operator (lexeme.KeyTo ∷ lexeme.KeyDownto ∷ []) w) (Literal lexeme.KeyFor ∷ Kid class.Name ∷ Literal lexeme.Becomes ∷ Kid class.Expression ∷ []) (Kid class.Expression ∷ Literal lexeme.KeyDo ∷ Kid class.Statement ∷ []) (λ x. refl)
begins_calm kind.With w n h = wordless_row w (layout kind.With [] n) refl
begins_calm kind.Name w n h = spelled_row _ lexeme.Identifier
begins_calm kind.Names w zero h = wordless_row w (layout kind.Names [] zero) refl
begins_calm kind.Names w (suc n) h = wordless_row w (layout kind.Names [] (suc n)) refl
begins_calm kind.Labels w zero h = wordless_row w (layout kind.Labels [] zero) refl
begins_calm kind.Labels w (suc n) h = wordless_row w (layout kind.Labels [] (suc n)) refl
begins_calm kind.Cnumber w n h = spelled_row _ lexeme.Numeral
begins_calm kind.Cstring w n h = spelled_row _ lexeme.Text
begins_calm kind.Cname w n h = wordless_row w (layout kind.Cname [] n) refl
begins_calm kind.Csign w n h = around_row (operator (lexeme.Plus ∷ lexeme.Minus ∷ []) w) [] (Kid class.Bare ∷ []) (λ x. refl)
begins_calm kind.Ref w n h = wordless_row w (layout kind.Ref [] n) refl
begins_calm kind.Index w n h = wordless_row w (layout kind.Index [] n) refl
begins_calm kind.Select w n h = wordless_row w (layout kind.Select [] n) refl
begins_calm kind.Deref w n h = wordless_row w (layout kind.Deref [] n) refl
begins_calm (kind.Hole s) w n h = wordless_row w (layout (kind.Hole s) [] n) refl
begins_calm _ w zero h = cc
begins_calm _ w (suc n) h = cc
