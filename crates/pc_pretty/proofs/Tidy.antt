-- A computed test of a node's items: no two symbols run together, whatever its kids are.
use Rattle.std.proofs.Common.{◌≡◌, ℕ, suc, Bool, true, false, not, ◌||◌, ◌&&◌, ◌==◌, ◌⊎◌, inl, inr, List, [], ◌∷◌, if◌then◌else◌, refl, sym, ap, ◌∙◌}
use Rattle.std.proofs.lemmas.Bool.{and_parts, or_parts, false≢true}
use Rattle.std.specs.List.{list_all}
use Rattle.pc_syntax.specs.declared.kind.Kind.{Kind}
use Rattle.pc_syntax.specs.declared.kind.Kind.TheVariants as kind
use Rattle.pc_syntax.specs.declared.class.Class.{Class}
use Rattle.pc_syntax.specs.declared.class.Class.TheVariants as class
use Rattle.pc_syntax.specs.declared.lexeme.Lexeme.{Lexeme}
use Rattle.pc_syntax.specs.declared.lexeme.Lexeme.TheVariants as lexeme
use Rattle.pc_syntax.specs.declared.item.Item.{Item}
use Rattle.pc_syntax.specs.declared.item.Item.TheVariants.{Literal, Word, Kid}
use Rattle.pc_syntax.specs.Classes.{has}
use Rattle.pc_pretty.specs.declared.spacing.Spacing.{Spacing}
use Rattle.pc_pretty.specs.declared.spacing.Spacing.TheVariants.{Tight}
use Rattle.pc_pretty.specs.Spacing.{space}
use Rattle.pc_pretty.proofs.Apart.{apart, good_first, good_last, opening, is_closing, first_byte}

-- what was printed last of a node: nothing of it, a symbol of its own, or a kid
pub data Prev : Type 0 where
  AtStart : Prev
  After : Lexeme → Prev
  AfterKid : Prev

abbrev pub tight : Spacing → Bool
tight Tight = true
tight _ = false

-- whether nothing may stand before an item
unfoldable pub tight_at : Kind → ℕ → Item → Bool
tight_at kind.Heads n x = true
tight_at kind.Args n x = true
tight_at kind.Params n x = true
tight_at k n x = tight (space k n x)

-- kinds that begin with `(`, kinds that may have no symbol, and the one that ends with `.`
unfoldable pub starts_paren : Kind → Bool
starts_paren kind.Heads = true
starts_paren kind.Args = true
starts_paren kind.Params = true
starts_paren _ = false

unfoldable pub is_blank : Kind → Bool
is_blank kind.Empty = true
is_blank kind.Heads = true
is_blank kind.Args = true
is_blank kind.Params = true
is_blank kind.Members = true
is_blank kind.Consts = true
is_blank kind.Types = true
is_blank kind.Vars = true
is_blank kind.Routines = true
is_blank kind.Stmts = true
is_blank _ = false

unfoldable pub is_loose : Kind → Bool
is_loose kind.Program = true
is_loose _ = false

-- the same of classes
unfoldable pub class_paren : Class → Bool
class_paren class.Heads = true
class_paren class.Args = true
class_paren class.Params = true
class_paren _ = false

abbrev pub any_has : Class → List Kind → Bool
any_has c [] = false
any_has c (k ∷ ks) = has c k || any_has c ks

abbrev pub blank_kinds : List Kind
blank_kinds = kind.Empty ∷ kind.Heads ∷ kind.Args ∷ kind.Params ∷ kind.Members ∷ kind.Consts ∷ kind.Types ∷ kind.Vars ∷ kind.Routines ∷ kind.Stmts ∷ []

unfoldable pub class_blank : Class → Bool
class_blank c = any_has c blank_kinds

unfoldable pub class_loose : Class → Bool
class_loose c = has c kind.Program

-- a symbol that a node of the kind may begin with
abbrev pub first_ok : Kind → Lexeme → Bool
first_ok k y = if starts_paren k then first_byte y == 40 else good_first y

-- whether a symbol of its own may come next, where nothing may stand before it
abbrev pub check : Kind → Bool → Lexeme → Prev → Bool
check k t y AtStart = first_ok k y
check k t y (After x) = not t || apart x y
check k t y AfterKid = not t || is_closing y

-- whether a kid may come next
abbrev pub check_kid : Kind → Bool → Class → Prev → Bool
check_kid k t c AtStart = not (starts_paren k)
check_kid k t c (After x) = not t || opening x
check_kid k t c AfterKid = not t || class_paren c

-- whether the node may end
abbrev pub may_end : Kind → Prev → Bool
may_end k AtStart = is_blank k
may_end k (After x) = is_loose k || good_last x
may_end k AfterKid = true

-- a symbol without a spelling of its own
unfoldable pub is_fixed : Lexeme → Bool
is_fixed lexeme.Identifier = false
is_fixed lexeme.Numeral = false
is_fixed lexeme.Text = false
is_fixed _ = true

-- what may have been printed last after a kid of the class
abbrev pub after_kid : Class → List Prev → List Prev
after_kid c ps = AfterKid ∷ (if class_blank c then ps else [])

-- the items from number n on may come after each of these
abbrev pub tidy : Kind → ℕ → List Item → List Prev → Bool
tidy k n [] ps = list_all (may_end k) ps
tidy k n (Literal y ∷ is) ps = is_fixed y && (list_all (check k (tight_at k n (Literal y)) y) ps && tidy k (suc n) is (After y ∷ []))
tidy k n (Word y ∷ is) ps = list_all (check k (tight_at k n (Word y)) y) ps && tidy k (suc n) is (After y ∷ [])
tidy k n (Kid c ∷ is) ps = not (class_loose c) && (list_all (check_kid k (tight_at k n (Kid c)) c) ps && tidy k (suc n) is (after_kid c ps))

-- one of them
abbrev pub Member : Prev → List Prev → Type 0
Member q [] = ⊥
Member q (p ∷ ps) = (q ≡ p) ⊎ Member q ps

pub member_all : (f : Prev → Bool) (ps : List Prev) (q : Prev) → list_all f ps ≡ true → Member q ps → f q ≡ true
member_all f [] q h m = absurd m
member_all f (p ∷ ps) q h m =
    let both : (f p ≡ true) × (list_all f ps ≡ true) = and_parts (f p) (list_all f ps) h in
    elim m [ inl e ↦ ap f e ∙ both.0 | inr n ↦ member_all f ps q both.1 n ]

pub tight_at-ge : (k : Kind) (n : ℕ) (x : Item) → tight (space k n x) ≡ true → tight_at k n x ≡ true
unfolding tight_at
tight_at-ge kind.Heads n x h = refl
tight_at-ge kind.Args n x h = refl
tight_at-ge kind.Params n x h = refl
tight_at-ge _ n x h = h

-- a kid's kind and its class
pub kid_not_loose : (c : Class) (k : Kind) → has c k ≡ true → class_loose c ≡ false → is_loose k ≡ false
unfolding class_loose is_loose
kid_not_loose c kind.Program h e = absurd (false≢true (sym e ∙ h))
kid_not_loose c _ h e = refl

pub kid_starts_paren : (c : Class) (k : Kind) → class_paren c ≡ true → has c k ≡ true → starts_paren k ≡ true
unfolding class_paren starts_paren
kid_starts_paren class.Heads k e h = heads k h
  where
    heads : (j : Kind) → has class.Heads j ≡ true → starts_paren j ≡ true
    heads kind.Heads g = refl
    heads _ g = cc
kid_starts_paren class.Args k e h = args k h
  where
    args : (j : Kind) → has class.Args j ≡ true → starts_paren j ≡ true
    args kind.Args g = refl
    args _ g = cc
kid_starts_paren class.Params k e h = params k h
  where
    params : (j : Kind) → has class.Params j ≡ true → starts_paren j ≡ true
    params kind.Params g = refl
    params _ g = cc
kid_starts_paren _ k e h = cc

contradicts : (a : Bool) (P : Type 0) → a ≡ true → a ≡ false → P
contradicts a P h e = absurd (false≢true (sym e ∙ h))

abbrev KindIn : Kind → List Kind → Type 0
KindIn k [] = ⊥
KindIn k (j ∷ js) = (k ≡ j) ⊎ KindIn k js

none_has : (c : Class) (k : Kind) (ks : List Kind) → KindIn k ks → any_has c ks ≡ false → has c k ≡ false
none_has c k [] m e = absurd m
none_has c k (j ∷ js) m e =
    let both : (has c j ≡ false) × (any_has c js ≡ false) = or_parts (has c j) (any_has c js) e in
    elim m [ inl f ↦ ap (has c) f ∙ both.0 | inr n ↦ none_has c k js n both.1 ]

pub kid_not_blank : (c : Class) (k : Kind) → has c k ≡ true → class_blank c ≡ false → is_blank k ≡ true → ⊥
unfolding class_blank is_blank
kid_not_blank c kind.Empty h e b = contradicts (has c kind.Empty) ⊥ h (none_has c kind.Empty blank_kinds (inl refl) e)
kid_not_blank c kind.Heads h e b = contradicts (has c kind.Heads) ⊥ h (none_has c kind.Heads blank_kinds (inr (inl refl)) e)
kid_not_blank c kind.Args h e b = contradicts (has c kind.Args) ⊥ h (none_has c kind.Args blank_kinds (inr (inr (inl refl))) e)
kid_not_blank c kind.Params h e b = contradicts (has c kind.Params) ⊥ h (none_has c kind.Params blank_kinds (inr (inr (inr (inl refl)))) e)
kid_not_blank c kind.Members h e b = contradicts (has c kind.Members) ⊥ h (none_has c kind.Members blank_kinds (inr (inr (inr (inr (inl refl))))) e)
kid_not_blank c kind.Consts h e b = contradicts (has c kind.Consts) ⊥ h (none_has c kind.Consts blank_kinds (inr (inr (inr (inr (inr (inl refl)))))) e)
kid_not_blank c kind.Types h e b = contradicts (has c kind.Types) ⊥ h (none_has c kind.Types blank_kinds (inr (inr (inr (inr (inr (inr (inl refl))))))) e)
kid_not_blank c kind.Vars h e b = contradicts (has c kind.Vars) ⊥ h (none_has c kind.Vars blank_kinds (inr (inr (inr (inr (inr (inr (inr (inl refl)))))))) e)
kid_not_blank c kind.Routines h e b = contradicts (has c kind.Routines) ⊥ h (none_has c kind.Routines blank_kinds (inr (inr (inr (inr (inr (inr (inr (inr (inl refl))))))))) e)
kid_not_blank c kind.Stmts h e b = contradicts (has c kind.Stmts) ⊥ h (none_has c kind.Stmts blank_kinds (inr (inr (inr (inr (inr (inr (inr (inr (inr (inl refl)))))))))) e)
kid_not_blank c _ h e b = cc
