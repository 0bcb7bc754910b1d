-- Symbols begin a text whether the trees that have them bear notes or not.
use Rattle.std.proofs.Common.{◌≡◌, ◌+◌, List, [], ◌∷◌, ◌++◌, refl, ap, sym, ◌∙◌}
use Rattle.pc_syntax.specs.declared.class.Class.{Class}
use Rattle.pc_syntax.specs.Plain.{Nil, Cons}
use Rattle.pc_syntax.specs.Layout.{layout}
use Rattle.pc_syntax.specs.Symbols.{Sym, fill}
use Rattle.pc_syntax.specs.WellFormed.{fits}
use Rattle.pc_layout.specs.Noted.{noted, unnoted}
use Rattle.pc_layout.specs.NotedLaws.{count-noted, kinds-noted, texts-noted, else_rule-noted, WellFormed-noted, bare-noted}
use Rattle.pc_parse.specs.Partial.{kids_in, Front, front_symbols, partial_symbols}
use Rattle.pc_parse.specs.Partial as partial
use Rattle.pc_parse.proofs.BarePartial.{IsFront, Linked, IsPartialTree, Begins, Nothing, Whole, Partly}
use Rattle.pc_parse.proofs.Reached.{good_formed}
use Rattle.pc_parse.proofs.Unnoted.{formed_good, bare_reads}

front_formed : (f : Front) → IsFront f → partial.IsFront f
front_formed f h = record { laid = h.laid; fit = h.fit; formed = good_formed f.kids h.good; rule = h.rule }

linked_formed : (f : Front) (gs : List Front) → Linked f gs → partial.Linked f gs
linked_formed f [] h = front_formed f h
linked_formed f (g ∷ gs) h = (front_formed f h.0, h.1, h.2, h.3, h.4, linked_formed g gs h.5)

tree_formed : (c : Class) (fs : List Front) → IsPartialTree c fs → partial.IsPartialTree c fs
tree_formed c [] h = h
tree_formed c (f ∷ fs) h = (h.0, linked_formed f fs h.1)

-- symbols that begin a text of a tree without notes begin one
pub begins_noted : (c : Class) (ys : List Sym) → Begins c ys → partial.Begins c ys
begins_noted c ys (Nothing e) = partial.Nothing e
begins_noted c ys (Whole t h) = partial.Whole t (record { member = h.member; formed = good_formed (Cons t.kind t.word t.notes t.kids Nil) h.good; spelled = h.spelled })
begins_noted c ys (Partly fs h e) = partial.Partly fs (tree_formed c fs h) e

-- the front without notes
abbrev bare_front : Front → Front
bare_front f = record { kind = f.kind; word = f.word; kids = noted f.kids []; read = f.read; left = f.left }

abbrev bare_fronts : List Front → List Front
bare_fronts [] = []
bare_fronts (f ∷ fs) = bare_front f ∷ bare_fronts fs

front_bare : (f : Front) → partial.IsFront f → IsFront (bare_front f)
front_bare f h = record {
  laid = ap (λ n. layout f.kind f.word (n + kids_in f.left)) (count-noted f.kids []) ∙ h.laid;
  fit = ap (fits f.read) (kinds-noted f.kids []) ∙ h.fit;
  good = formed_good (noted f.kids []) (WellFormed-noted f.kids [] h.formed refl) (bare-noted f.kids [] refl);
  rule = else_rule-noted f.kind f.kids [] ∙ h.rule;
}

linked_bare : (f : Front) (gs : List Front) → partial.Linked f gs → Linked (bare_front f) (bare_fronts gs)
linked_bare f [] h = front_bare f h
linked_bare f (g ∷ gs) h = (front_bare f h.0, h.1, h.2, h.3, h.4, linked_bare g gs h.5)

tree_bare : (c : Class) (fs : List Front) → partial.IsPartialTree c fs → IsPartialTree c (bare_fronts fs)
tree_bare c [] h = h
tree_bare c (f ∷ fs) h = (h.0, linked_bare f fs h.1)

front_symbols-bare : (f : Front) → front_symbols (bare_front f) ≡ front_symbols f
front_symbols-bare f = ap (fill f.read f.word) (texts-noted f.kids [])

symbols_bare : (fs : List Front) → partial_symbols (bare_fronts fs) ≡ partial_symbols fs
symbols_bare [] = refl
symbols_bare (f ∷ fs) = ap (λ ys. ys ++ partial_symbols (bare_fronts fs)) (front_symbols-bare f) ∙ ap (λ ys. front_symbols f ++ ys) (symbols_bare fs)

-- symbols that begin a text begin one of a tree without notes
pub begins_bare : (c : Class) (ys : List Sym) → partial.Begins c ys → Begins c ys
begins_bare c ys (partial.Nothing e) = Nothing e
begins_bare c ys (partial.Whole t h) = Whole (unnoted t) (bare_reads c t ys h)
begins_bare c ys (partial.Partly fs h e) = Partly (bare_fronts fs) (tree_bare c fs h) (e ∙ sym (symbols_bare fs))
