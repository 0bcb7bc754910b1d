-- A tree with nothing shared and nothing kept beside it: what contracts see of a `Tree`.
use Rattle.std.specs.Prelude.{◌≡◌, ℕ, zero, suc, List, [], ◌∷◌, refl}
use Rattle.std.proofs.Common.{ap}
use Rattle.std.specs.Coded.{Coded, coded_ℕ, coded_list}
use base.Stored.{Gv, gnil, gnum, gcons}
use Rattle.pc_syntax.specs.declared.kind.Kind.{Kind}
use Rattle.pc_syntax.specs.contracts.kind.Kind as kind

-- trees in a row: kind, word, notes and kids of the first, and the trees after it
pub data Forest : Type 0 where
  Nil : Forest
  Cons : Kind → List ℕ → List (List ℕ) → Forest → Forest → Forest

-- a node and all below it
pub record Plain : Type 0 where
  pub kind : Kind
  pub word : List ℕ
  pub notes : List (List ℕ)
  pub kids : Forest

-- a forest as the list of its trees, and back
abbrev pub trees_of : Forest → List Plain
trees_of Nil = []
trees_of (Cons k w ns ks ts) = record { kind = k; word = w; notes = ns; kids = ks } ∷ trees_of ts

abbrev pub forest_of : List Plain → Forest
forest_of [] = Nil
forest_of (t ∷ ts) = Cons t.kind t.word t.notes t.kids (forest_of ts)

-- a node and what it holds
unfoldable pub node : Kind → List ℕ → List (List ℕ) → List Plain → Plain
node k w ns ks = record { kind = k; word = w; notes = ns; kids = forest_of ks }

unfoldable pub kids_of : Plain → List Plain
kids_of p = trees_of p.kids

-- how many trees, and their kinds
abbrev pub count : Forest → ℕ
count Nil = zero
count (Cons k w ns ks ts) = suc (count ts)

abbrev pub kinds : Forest → List Kind
kinds Nil = []
kinds (Cons k w ns ks ts) = k ∷ kinds ts

-- a code, by which a proof tells two trees apart
abbrev words : Coded (List ℕ)
words = coded_list coded_ℕ

abbrev texts : Coded (List (List ℕ))
texts = coded_list words

abbrev kind_codes : Coded Kind
kind_codes = kind.the_row.coded

abbrev pub forest_code : Forest → Gv
forest_code Nil = gnil
forest_code (Cons k w ns ks ts) = gcons (kind_codes.code k) (gcons (words.code w) (gcons (texts.code ns) (gcons (forest_code ks) (forest_code ts))))

abbrev head : Gv → Gv
head gnil = gnil
head (gnum n) = gnil
head (gcons a b) = a

abbrev tail : Gv → Gv
tail gnil = gnil
tail (gnum n) = gnil
tail (gcons a b) = b

pub forest_code-inj : (a b : Forest) → forest_code a ≡ forest_code b → a ≡ b
forest_code-inj Nil Nil e = refl
forest_code-inj Nil (Cons j v ms js us) e = cc
forest_code-inj (Cons k w ns ks ts) Nil e = cc
forest_code-inj (Cons k w ns ks ts) (Cons j v ms js us) e = λ i.
    Cons
    (kind_codes.inj k j (ap head e) i)
    (words.inj w v (ap (λ g. head (tail g)) e) i)
    (texts.inj ns ms (ap (λ g. head (tail (tail g))) e) i)
    (forest_code-inj ks js (ap (λ g. head (tail (tail (tail g)))) e) i)
    (forest_code-inj ts us (ap (λ g. tail (tail (tail (tail g)))) e) i)

abbrev pub code_of : Plain → Gv
code_of p = forest_code (Cons p.kind p.word p.notes p.kids Nil)

abbrev first : Forest → Plain → Plain
first Nil d = d
first (Cons k w ns ks ts) d = record { kind = k; word = w; notes = ns; kids = ks }

pub code_of-inj : (p q : Plain) → code_of p ≡ code_of q → p ≡ q
code_of-inj p q e = ap (λ t. first t p) (forest_code-inj (Cons p.kind p.word p.notes p.kids Nil) (Cons q.kind q.word q.notes q.kids Nil) e)

abbrev pub plain_code : Coded Plain
plain_code = record { code = code_of; inj = code_of-inj }
