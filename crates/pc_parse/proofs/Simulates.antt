-- The machine reads the symbols of a node, item after item.
use Rattle.std.proofs.Common.{◌≡◌, ℕ, Bool, true, false, not, ◌&&◌, ◌||◌, if◌then◌else◌, List, [], ◌∷◌, ◌++◌, Option, Some, None, refl, ap, sym, ◌∙◌, append_assoc, append-nil}
use Rattle.pc_syntax.specs.declared.lexeme.Lexeme.{Lexeme}
use Rattle.pc_syntax.specs.declared.lexeme.Lexeme.TheVariants as lexeme
use Rattle.pc_syntax.specs.declared.kind.Kind.{Kind}
use Rattle.pc_syntax.specs.declared.kind.Kind.TheVariants as kind
use Rattle.pc_syntax.specs.declared.sort.Sort.TheVariants as sort
use Rattle.pc_syntax.specs.declared.class.Class.{Class}
use Rattle.pc_syntax.specs.declared.item.Item.{Item}
use Rattle.pc_syntax.specs.declared.item.Item.TheVariants.{Literal, Word, Kid}
use Rattle.pc_syntax.specs.Plain.{Forest, Nil, Cons, Plain, kinds, trees_of, forest_of}
use Rattle.pc_syntax.specs.Classes.{has}
use Rattle.pc_syntax.specs.Spellings.{spelling_of}
use Rattle.pc_syntax.specs.Symbols.{Sym, fill, texts, symbols}
use Rattle.pc_syntax.specs.WellFormed.{fits, opens, last_open}
use Rattle.pc_parse.specs.Lookahead.{same, look, word_at}
use Rattle.pc_parse.specs.Tables.{Start, Leaf, Open, Predict, Blank, NoStart, start, switch, recast, closes, turned_word, again}
use Rattle.pc_parse.specs.Machine.{Frame, frame, State, Reading, Holding, Plan, on_start, on_switch, on_recast, at_close, on_kid, on_again, awaited_by}
use Rattle.pc_parse.specs.Runs.{make_plain, Go, apply, step}
use Rattle.pc_parse.proofs.Entries.{each, implies, implies_true, &&_split, all_lookaheads, all_kinds, at_kind, at_lookahead, &&_join}
use Rattle.pc_parse.proofs.Follows.{known, corner, follow, tail, corner_of, tail_after, give_after}
use Rattle.pc_parse.proofs.TableTests.{same_class, same_class_eq, same_look}
use Rattle.pc_parse.proofs.Leading.{Leads, one, stays, onward}

-- a node without notes, of a forest of kids
abbrev pub bare : Kind → List ℕ → Forest → Plain
bare k w ks = record { kind = k; word = w; notes = []; kids = ks }

pub trees_back : (ts : Forest) → forest_of (trees_of ts) ≡ ts
trees_back Nil = refl
trees_back (Cons k w ns ks ts) = ap (Cons k w ns ks) (trees_back ts)

-- a node that ends open isn't followed by else
pub record Quiet (k : Kind) (ks : Forest) (x : Option Lexeme) : Type 0 where
  pub closed : x ≡ Some lexeme.KeyElse → opens k (last_open ks) ≡ false

-- whether a node begins at all
abbrev pub starts : Start → Bool
starts NoStart = false
starts g = true

-- Where a node of the class can begin, the state begins one over the frames.
abbrev pub Begins : Class → State Plain → Class → List (Frame Plain) → List Sym → Type 0
Begins root st c fs ys = starts (start c (look ys)) ≡ true → step root st ys ≡ apply (on_start make_plain (start c (look ys)) (word_at ys) fs) ys

abbrev pub mark : Lexeme → Sym
mark x = record { lexeme = x; spelling = [] }

-- The node's symbols lead from a kid awaited to the node held.
abbrev pub Found : Kind → List ℕ → Forest → Type 0
Found k w ks =
    (root c : Class) (st : State Plain) (m : List Item) (fs : List (Frame Plain)) (rest : List Sym)
    → Begins root st c fs (symbols k w ks ++ rest) → awaited_by root fs ≡ Some (c, m) → corner c k ≡ true → tail c k (look rest) ≡ true → Quiet k ks (look rest)
    → Leads root st (symbols k w ks ++ rest) (Holding k (bare k w ks) fs) rest

-- The symbols of a list, a separator and the end lead from the node that awaits the list to the node past its last `;`.
abbrev pub Closed : Kind → List ℕ → Forest → Type 0
Closed k w ks =
    (root : Class) (l : List Item) (j : Kind) (v : List ℕ) (kids : List Plain) (m : List Item) (fs : List (Frame Plain)) (rest : List Sym)
    → closes k l j m ≡ true
    → Leads root (Reading (frame j v kids m) fs) (symbols k w ks ++ (mark lexeme.Semicolon ∷ mark lexeme.KeyEnd ∷ rest))
    (Reading (frame j (spelling_of lexeme.Semicolon) (kids ++ bare k w ks ∷ []) (Literal lexeme.KeyEnd ∷ [])) fs) (mark lexeme.KeyEnd ∷ rest)

-- whether the symbol isn't that which closes a set
abbrev pub is_in_set : Option Lexeme → Bool
is_in_set x = not (same_look x (Some lexeme.CloseBracket))

-- whether the symbol begins a name, or the body of a block
abbrev pub begins_name : Option Lexeme → Bool
begins_name x = same_look x (Some lexeme.Identifier) || same_look x (Some (lexeme.Hole sort.Name))

abbrev pub begins_body : Option Lexeme → Bool
begins_body x = same_look x (Some lexeme.KeyBegin) || same_look x (Some (lexeme.Hole sort.Statement))

-- whether the symbol begins a constant
abbrev pub begins_constant : Option Lexeme → Bool
begins_constant (Some lexeme.Identifier) = true
begins_constant (Some lexeme.Numeral) = true
begins_constant (Some lexeme.Text) = true
begins_constant (Some lexeme.Plus) = true
begins_constant (Some lexeme.Minus) = true
begins_constant (Some (lexeme.Hole sort.Constant)) = true
begins_constant (Some (lexeme.Hole sort.Name)) = true
begins_constant _ = false

-- whether the symbol begins a procedure or a function
abbrev pub begins_routine : Option Lexeme → Bool
begins_routine x = same_look x (Some lexeme.KeyProcedure) || (same_look x (Some lexeme.KeyFunction) || same_look x (Some (lexeme.Hole sort.Routine)))

-- whether a node of the kind before the symbol s may begin with x, or be blank and x be s; said only where it matters
abbrev pub first : Kind → Option Lexeme → Option Lexeme → Bool
first kind.Name s x = same_look x (Some lexeme.Identifier)
first kind.Ref s x = is_in_set x
first kind.Index s x = is_in_set x
first kind.Select s x = is_in_set x
first kind.Deref s x = is_in_set x
first kind.Number s x = is_in_set x
first kind.Text s x = is_in_set x
first kind.Nil s x = is_in_set x
first kind.Call s x = is_in_set x
first kind.Parens s x = is_in_set x
first kind.Not s x = is_in_set x
first kind.Setcon s x = is_in_set x
first kind.Mul s x = is_in_set x
first kind.Add s x = is_in_set x
first kind.Sign s x = is_in_set x
first kind.Rel s x = is_in_set x
first kind.Span s x = is_in_set x
first kind.Names s x = begins_name x
first kind.Vardef s x = begins_name x
first kind.Field s x = begins_name x
first kind.Compound s x = same_look x (Some lexeme.KeyBegin)
first kind.Vars s x = same_look x (Some lexeme.KeyVar) || same_look x s
first kind.Args s x = same_look x (Some lexeme.OpenParen) || same_look x s
first kind.Constdef s x = begins_name x
first kind.Consts s x = same_look x (Some lexeme.KeyConst) || same_look x s
first kind.Typedef s x = begins_name x
first kind.Types s x = same_look x (Some lexeme.KeyType) || same_look x s
first kind.Cnumber s x = begins_constant x
first kind.Cstring s x = begins_constant x
first kind.Cname s x = begins_constant x
first kind.Csign s x = begins_constant x
first kind.Labels s x = begins_constant x
first kind.Valparam s x = begins_name x
first kind.Params s x = same_look x (Some lexeme.OpenParen) || same_look x s
first kind.Procedure s x = same_look x (Some lexeme.KeyProcedure)
first kind.Function s x = same_look x (Some lexeme.KeyFunction)
first kind.Funbody s x = same_look x (Some lexeme.KeyFunction)
first kind.Routines s x = begins_routine x || same_look x s
first (kind.Hole r) s x = same_look x (Some (lexeme.Hole r))
first k s x = true

abbrev pub Front : Kind → List ℕ → Forest → Type 0
Front k w ks = (rest : List Sym) → first k (look rest) (look (symbols k w ks ++ rest)) ≡ true

-- each tree is of a known kind, has no notes, begins as its kind does and is read, and so is a list with a last separator
abbrev pub AllRead : Forest → Type 0
AllRead Nil = Unit {0}
AllRead (Cons k w ns ks ts) = (known k ≡ true) × (ns ≡ []) × Front k w ks × (Found k w ks × Closed k w ks) × AllRead ts

-- what follows each kid lets it end there
abbrev pub Okay : List Item → List ℕ → Forest → List Sym → Type 0
Okay [] w ts rest = Unit {0}
Okay (Literal x ∷ l) w ts rest = Okay l w ts rest
Okay (Word x ∷ l) w ts rest = Okay l w ts rest
Okay (Kid c ∷ l) w Nil rest = Unit {0}
Okay (Kid c ∷ l) w (Cons k v ns ks ts) rest =
    (follow c (look (fill l w (texts ts) ++ rest)) ≡ true) × Quiet k ks (look (fill l w (texts ts) ++ rest)) × Okay l w ts rest

-- a loop downwards has another word than it began with
abbrev pub keeps_word : Kind → Bool
keeps_word kind.For = false
keeps_word _ = true

-- how a node goes on that keeps its word
abbrev pub kept_switch : Option (Kind × List Item) → Option (Kind × List Item)
kept_switch None = None
kept_switch (Some p) = if keeps_word p.0 then Some p else None

-- the same of a node that goes on as another, whose next item is the symbol
abbrev pub first_literal : Kind → List Item → Lexeme → Option (Kind × List Item)
first_literal k [] x = None
first_literal k (Literal y ∷ m) x = if same y x then Some (k, m) else None
first_literal k (Word y ∷ m) x = None
first_literal k (Kid c ∷ m) x = None

abbrev pub recast_literal : Option (Kind × List Item) → Lexeme → Option (Kind × List Item)
recast_literal None x = None
recast_literal (Some p) x = first_literal p.0 p.1 x

-- what is left of a node's items after a symbol that is no word
abbrev pub after_literal : Kind → List Item → Lexeme → Option (Kind × List Item)
after_literal k [] x = kept_switch (switch k [] (Some x))
after_literal k (Literal y ∷ m) x = if same y x then Some (k, m) else kept_switch (switch k (Literal y ∷ m) (Some x))
after_literal k (Word y ∷ m) x = None
after_literal k (Kid c ∷ m) x = if starts (start c (Some x)) then None else recast_literal (recast k (Kid c ∷ m) (Some x)) x

-- whether a node whose items are done takes a further kid of the class, which it knows by its first symbol
abbrev pub is_no_switch : Option (Kind × List Item) → Bool
is_no_switch None = true
is_no_switch (Some p) = false

abbrev pub is_again : Option Class → Class → Bool
is_again None c = false
is_again (Some d) c = same_class d c

abbrev pub resumes_at : Kind → Class → Option Lexeme → Bool
resumes_at k c x = is_no_switch (switch k [] x) && is_again (again k x) c

abbrev pub resumes : Kind → Class → Bool
resumes k c = each (λ i. implies (has c i && known i) (each (λ s. each (λ x. implies (first i s x) (resumes_at k c x)) all_lookaheads) all_lookaheads)) all_kinds

abbrev pub Switched : Option (Kind × List Item) → (Kind → List Item → Type 0) → Type 0
Switched None P = ⊥
Switched (Some p) P = P p.0 p.1

-- A node of kind k that awaits m goes through the items of l and is then of kind j and awaits n.
abbrev pub Tracks : Kind → List Item → List Item → Kind → List Item → Type 0
Tracks k m [] j n = (k ≡ j) × (m ≡ n)
Tracks k m (Literal x ∷ l) j n = Switched (after_literal k m x) (λ i o. Tracks i o l j n)
Tracks k m (Word x ∷ l) j n = ⊥
Tracks k [] (Kid c ∷ l) j n = (resumes k c ≡ true) × Tracks k [] l j n
Tracks k (Literal x ∷ m) (Kid c ∷ l) j n = ⊥
Tracks k (Word x ∷ m) (Kid c ∷ l) j n = ⊥
Tracks k (Kid d ∷ m) (Kid c ∷ l) j n = (d ≡ c) × Tracks k m l j n

switched : (o : Option (Kind × List Item)) (P : Kind → List Item → Type 0) → Switched o P → (k : Kind) × (m : List Item) × (o ≡ Some (k, m)) × P k m
switched None P h = absurd h
switched (Some p) P h = (p.0, p.1, refl, h)

abbrev word_kept : Option (Kind × List Item) → Bool
word_kept None = true
word_kept (Some p) = keeps_word p.0

kept_of : (o : Option (Kind × List Item)) (j : Kind) (n : List Item) → kept_switch o ≡ Some (j, n) → (o ≡ Some (j, n)) × (keeps_word j ≡ true)
kept_of None j n h = cc
kept_of (Some p) j n h = go (keeps_word p.0) refl h
  where
    go : (b : Bool) → keeps_word p.0 ≡ b → (if b then Some p else None) ≡ Some (j, n) → (Some p ≡ Some (j, n)) × (keeps_word j ≡ true)
    go true e i = (i, sym (ap word_kept i) ∙ e)
    go false e i = cc

turned_kept : (j : Kind) (w : List ℕ) → keeps_word j ≡ true → turned_word j w ≡ w
turned_kept kind.For w h = cc
turned_kept _ w h = refl

none_some : {A : Type 0} (p : Kind × List Item) → None ≡ Some p → A
none_some p h = cc

pair_eq : (p q : Kind × List Item) → Some p ≡ Some q → p ≡ q
pair_eq p q h = cc

-- the step over a symbol that is the node's next item
over_first : (root : Class) (k : Kind) (w : List ℕ) (kids : List Plain) (m : List Item) (fs : List (Frame Plain)) (x : Lexeme) (more : List Sym) (j : Kind) (n : List Item)
    → first_literal k m x ≡ Some (j, n) → step root (Reading (frame k w kids m) fs) (mark x ∷ more) ≡ Go (Reading (frame j w kids n) fs) more
over_first root k w kids [] fs x more j n e = cc
over_first root k w kids (Literal y ∷ m) fs x more j n e = go (same y x) refl
  where
    go : (b : Bool) → same y x ≡ b → step root (Reading (frame k w kids (Literal y ∷ m)) fs) (mark x ∷ more) ≡ Go (Reading (frame j w kids n) fs) more
    go true h =
        let is : Some (k, m) ≡ Some (j, n) = rw h at e in
        rw h (ap (λ (q : Kind × List Item). Go (Reading (frame q.0 w kids q.1) fs) more) (pair_eq (k, m) (j, n) is))
    go false h = none_some (j, n) (rw h at e)
over_first root k w kids (Word y ∷ m) fs x more j n e = cc
over_first root k w kids (Kid c ∷ m) fs x more j n e = cc

no_start : (g : Start) → starts g ≡ false → g ≡ NoStart
no_start (Leaf k) h = cc
no_start (Open k v m) h = cc
no_start (Predict k m) h = cc
no_start (Blank k) h = cc
no_start NoStart h = refl

-- the steps over a symbol that is no word
over_literal : (root : Class) (k : Kind) (w : List ℕ) (kids : List Plain) (m : List Item) (fs : List (Frame Plain)) (x : Lexeme) (more : List Sym) (j : Kind) (n : List Item)
    → after_literal k m x ≡ Some (j, n) → Leads root (Reading (frame k w kids m) fs) (mark x ∷ more) (Reading (frame j w kids n) fs) more
over_literal root k w kids [] fs x more j n e =
    let p = kept_of (switch k [] (Some x)) j n e in
    one root _ _ _ _
    (ap (λ o. apply (on_switch make_plain o (on_again make_plain (again k (Some x)) (Some x) [] (frame k w kids []) fs) (frame k w kids []) fs) (mark x ∷ more)) p.0
    ∙ ap (λ v. Go (Reading (frame j v kids n) fs) more) (turned_kept j w p.1))
over_literal root k w kids (Literal y ∷ m) fs x more j n e = one root _ _ _ _ (go (same y x) refl)
  where
    go : (b : Bool) → same y x ≡ b → step root (Reading (frame k w kids (Literal y ∷ m)) fs) (mark x ∷ more) ≡ Go (Reading (frame j w kids n) fs) more
    go true h =
        let is : Some (k, m) ≡ Some (j, n) = rw h at e in
        let p : (k, m) ≡ (j, n) = pair_eq (k, m) (j, n) is in
        rw h (ap (λ (q : Kind × List Item). Go (Reading (frame q.0 w kids q.1) fs) more) p)
    go false h =
        let is : kept_switch (switch k (Literal y ∷ m) (Some x)) ≡ Some (j, n) = rw h at e in
        let p = kept_of (switch k (Literal y ∷ m) (Some x)) j n is in
        rw (h, p.0) (ap (λ v. Go (Reading (frame j v kids n) fs) more) (turned_kept j w p.1))
over_literal root k w kids (Word y ∷ m) fs x more j n e = cc
over_literal root k w kids (Kid c ∷ m) fs x more j n e = go (starts (start c (Some x))) refl
  where
    way : (o : Option (Kind × List Item)) → recast k (Kid c ∷ m) (Some x) ≡ o → start c (Some x) ≡ NoStart → recast_literal o x ≡ Some (j, n)
        → Leads root (Reading (frame k w kids (Kid c ∷ m)) fs) (mark x ∷ more) (Reading (frame j w kids n) fs) more
    way None h none i = cc
    way (Some p) h none i =
        let turned : step root (Reading (frame k w kids (Kid c ∷ m)) fs) (mark x ∷ more) ≡ Go (Reading (frame p.0 w kids p.1) fs) (mark x ∷ more) = rw (none, h) refl in
        onward (one root _ _ _ _ turned) (one root _ _ _ _ (over_first root p.0 w kids p.1 fs x more j n i))

    go : (b : Bool) → starts (start c (Some x)) ≡ b → Leads root (Reading (frame k w kids (Kid c ∷ m)) fs) (mark x ∷ more) (Reading (frame j w kids n) fs) more
    go true h = none_some (j, n) (rw h at e)
    go false h = way (recast k (Kid c ∷ m) (Some x)) refl (no_start (start c (Some x)) h) (rw h at e)

-- a kid that can begin does
pub kid_begins : (g : Start) (other : Plan Plain) (w : List ℕ) (fs : List (Frame Plain)) → starts g ≡ true → on_kid make_plain g other w fs ≡ on_start make_plain g w fs
kid_begins (Leaf k) other w fs h = refl
kid_begins (Open k v m) other w fs h = refl
kid_begins (Predict k m) other w fs h = refl
kid_begins (Blank k) other w fs h = refl
kid_begins NoStart other w fs h = cc

no_switch : (o : Option (Kind × List Item)) → is_no_switch o ≡ true → o ≡ None
no_switch None h = refl
no_switch (Some p) h = cc

again_class : (o : Option Class) (c : Class) → is_again o c ≡ true → (d : Class) × (o ≡ Some d) × (same_class d c ≡ true)
again_class None c h = cc
again_class (Some d) c h = (d, refl, h)

-- a node whose items are done takes a further kid of the class
resumed : (k : Kind) (c : Class) (i : Kind) (s x : Option Lexeme) → resumes k c ≡ true → has c i ≡ true → known i ≡ true → first i s x ≡ true
    → (switch k [] x ≡ None) × (again k x ≡ Some c)
resumed k c i s x test member is_known begins =
    let by_kind : each (λ z. each (λ y. implies (first i z y) (resumes_at k c y)) all_lookaheads) all_lookaheads ≡ true =
    implies_true _ _ (at_kind (λ j. implies (has c j && known j) (each (λ z. each (λ y. implies (first j z y) (resumes_at k c y)) all_lookaheads) all_lookaheads)) i test) (&&_join _ _ member is_known) in
    let by_next : each (λ y. implies (first i s y) (resumes_at k c y)) all_lookaheads ≡ true = at_lookahead (λ z. each (λ y. implies (first i z y) (resumes_at k c y)) all_lookaheads) s by_kind in
    let found : resumes_at k c x ≡ true = implies_true _ _ (at_lookahead (λ y. implies (first i s y) (resumes_at k c y)) x by_next) begins in
    let p = &&_split _ _ found in
    let d = again_class (again k x) c p.1 in
    (no_switch _ p.0, d.1 ∙ ap Some (same_class_eq d.0 c d.2))

pub arrive : (root : Class) (a : State Plain) (xs : List Sym) (b d : State Plain) (ys : List Sym) → b ≡ d → Leads root a xs b ys → Leads root a xs d ys
arrive root a xs b d ys e h = rw (← e) h

one_more : (kids : List Plain) (i : Kind) (v : List ℕ) (ns : List (List ℕ)) (is ts : Forest) → ns ≡ [] → (kids ++ bare i v is ∷ []) ++ trees_of ts ≡ kids ++ trees_of (Cons i v ns is ts)
one_more kids i v ns is ts e = rw e (append_assoc kids (bare i v is ∷ []) (trees_of ts))

-- a row of the items of a node: kids and all between
pub reads_front : (root : Class) (l : List Item) (ts : Forest) (k : Kind) (m : List Item) (j : Kind) (n : List Item) (w : List ℕ) (kids : List Plain) (fs : List (Frame Plain)) (rest : List Sym)
    → AllRead ts → fits l (kinds ts) ≡ true → Okay l w ts rest → Tracks k m l j n
    → Leads root (Reading (frame k w kids m) fs) (fill l w (texts ts) ++ rest) (Reading (frame j w (kids ++ trees_of ts) n) fs) rest
reads_front root [] Nil k m j n w kids fs rest all fit okay track = rw (track.0, track.1, append-nil kids) (stays root (Reading (frame j w kids n) fs) rest)
reads_front root [] (Cons i v ns is ts) k m j n w kids fs rest all fit okay track = cc
reads_front root (Literal x ∷ l) ts k m j n w kids fs rest all fit okay track =
    let s = switched (after_literal k m x) _ track in
    onward (over_literal root k w kids m fs x (fill l w (texts ts) ++ rest) s.0 s.1 s.2)
    (reads_front root l ts s.0 s.1 j n w kids fs rest all fit okay s.3)
reads_front root (Word x ∷ l) ts k m j n w kids fs rest all fit okay track = absurd track
reads_front root (Kid c ∷ l) Nil k m j n w kids fs rest all fit okay track = cc
reads_front root (Kid c ∷ l) (Cons i v ns is ts) k (Literal y ∷ m) j n w kids fs rest all fit okay track = absurd track
reads_front root (Kid c ∷ l) (Cons i v ns is ts) k (Word y ∷ m) j n w kids fs rest all fit okay track = absurd track
reads_front root (Kid c ∷ l) (Cons i v ns is ts) k [] j n w kids fs rest all fit okay track =
    let more = fill l w (texts ts) ++ rest in
    let f = frame k w kids (Kid c ∷ []) in
    let ys = symbols i v is ++ more in
    let member : has c i ≡ true = (&&_split _ _ fit).0 in
    let way : (switch k [] (look ys) ≡ None) × (again k (look ys) ≡ Some c) = resumed k c i (look more) (look ys) track.0 member all.0 (all.2 more) in
    let begins : Begins root (Reading (frame k w kids []) fs) c (f ∷ fs) ys = λ h. rw (way.0, way.1) refl in
    let given : step root (Holding i (bare i v is) (f ∷ fs)) more ≡ Go (Reading (frame k w (kids ++ bare i v is ∷ []) []) fs) more = rw (give_after c i (look more) member okay.0, member) refl in
    rw (append_assoc (symbols i v is) (fill l w (texts ts)) rest, ← one_more kids i v ns is ts all.1)
    (onward (all.3.0 root c (Reading (frame k w kids []) fs) [] (f ∷ fs) more begins refl (corner_of c i (look more) member okay.0) (tail_after c i (look more) member okay.0) okay.1)
    (onward (one root _ _ _ _ given)
    (reads_front root l ts k [] j n w (kids ++ bare i v is ∷ []) fs rest all.4 (&&_split _ _ fit).1 okay.2 track.1)))
reads_front root (Kid c ∷ l) (Cons i v ns is ts) k (Kid d ∷ m) j n w kids fs rest all fit okay track =
    let more = fill l w (texts ts) ++ rest in
    let f = frame k w kids (Kid c ∷ m) in
    let ys = symbols i v is ++ more in
    let member : has c i ≡ true = (&&_split _ _ fit).0 in
    let begins : Begins root (Reading f fs) c (f ∷ fs) ys = λ h. ap (λ p. apply p ys) (kid_begins (start c (look ys)) (on_recast make_plain (recast k (Kid c ∷ m) (look ys)) (at_close make_plain (Kid c ∷ m) f fs) f fs) (word_at ys) (f ∷ fs) h) in
    let given : step root (Holding i (bare i v is) (f ∷ fs)) more ≡ Go (Reading (frame k w (kids ++ bare i v is ∷ []) m) fs) more = rw (give_after c i (look more) member okay.0, member) refl in
    rw (append_assoc (symbols i v is) (fill l w (texts ts)) rest, ← one_more kids i v ns is ts all.1, track.0)
    (onward (all.3.0 root c (Reading f fs) m (f ∷ fs) more begins refl (corner_of c i (look more) member okay.0) (tail_after c i (look more) member okay.0) okay.1)
    (onward (one root _ _ _ _ given)
    (reads_front root l ts k m j n w (kids ++ bare i v is ∷ []) fs rest all.4 (&&_split _ _ fit).1 okay.2 track.1)))

abbrev pub is_no_class : Option Class → Bool
is_no_class None = true
is_no_class (Some c) = false

-- a node of the kind whose items are done ends before the symbol
abbrev pub halts : Kind → Option Lexeme → Bool
halts k x = is_no_switch (switch k [] x) && is_no_class (again k x)

no_class : (o : Option Class) → is_no_class o ≡ true → o ≡ None
no_class None h = refl
no_class (Some c) h = cc

-- the rest of a node
pub reads_items : (root : Class) (l : List Item) (ts : Forest) (k : Kind) (m : List Item) (j : Kind) (w : List ℕ) (kids : List Plain) (fs : List (Frame Plain)) (rest : List Sym)
    → AllRead ts → fits l (kinds ts) ≡ true → Okay l w ts rest → Tracks k m l j [] → halts j (look rest) ≡ true
    → Leads root (Reading (frame k w kids m) fs) (fill l w (texts ts) ++ rest) (Holding j (make_plain j w (kids ++ trees_of ts)) fs) rest
reads_items root l ts k m j w kids fs rest all fit okay track end =
    let p = &&_split _ _ end in
    let ended : step root (Reading (frame j w (kids ++ trees_of ts) []) fs) rest ≡ Go (Holding j (make_plain j w (kids ++ trees_of ts)) fs) rest = rw (no_switch (switch j [] (look rest)) p.0, no_class (again j (look rest)) p.1) refl in
    onward (reads_front root l ts k m j [] w kids fs rest all fit okay track) (one root _ _ _ _ ended)
