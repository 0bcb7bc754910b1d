-- The nodes of arms and fields are read, and those that such lists stand in.
use Rattle.std.proofs.Common.{◌≡◌, ℕ, zero, suc, Bool, true, false, ◌&&◌, ◌||◌, if◌then◌else◌, bytes_eq, List, [], ◌∷◌, ◌++◌, Option, Some, None, refl, ap, sym, ◌∙◌, subst, append_assoc}
use Rattle.pc_syntax.specs.declared.lexeme.Lexeme.{Lexeme}
use Rattle.pc_syntax.specs.declared.lexeme.Lexeme.TheVariants as lexeme
use Rattle.pc_syntax.specs.declared.kind.Kind.{Kind}
use Rattle.pc_syntax.specs.declared.kind.Kind.TheVariants as kind
use Rattle.pc_syntax.specs.declared.sort.Sort.TheVariants as sort
use Rattle.pc_syntax.specs.declared.class.Class.{Class}
use Rattle.pc_syntax.specs.declared.class.Class.TheVariants as class
use Rattle.pc_syntax.specs.declared.item.Item.{Item}
use Rattle.pc_syntax.specs.declared.item.Item.TheVariants.{Literal, Kid}
use Rattle.pc_syntax.specs.Plain.{Forest, Nil, Cons, Plain, count, kinds, trees_of}
use Rattle.pc_syntax.specs.Classes.{has}
use Rattle.pc_syntax.specs.Layout.{layout, further}
use Rattle.pc_syntax.specs.Spellings.{spelling_of}
use Rattle.pc_syntax.specs.Symbols.{Sym, fill, texts, symbols}
use Rattle.pc_syntax.specs.WellFormed.{fits, fits_some}
use Rattle.pc_parse.specs.Lookahead.{look}
use Rattle.pc_parse.specs.Tables.{Open, Predict, start, switch, closes}
use Rattle.pc_parse.specs.Machine.{Frame, frame, Reading, Holding}
use Rattle.pc_parse.specs.Runs.{make_plain, Go, step}
use Rattle.pc_parse.proofs.Entries.{&&_split, &&_join}
use Rattle.pc_parse.proofs.Follows.{known, follow, plain_class, ends_denoter, ends_labels, ends_part, ends_parts, ends_statement}
use Rattle.pc_parse.proofs.TableTests.{same_look, same_word_eq, or_left, or_right, only_at, one_at, at_whenever, opens_at, predicts_to, predicts_to_eq}
use Rattle.pc_parse.proofs.Simulates.{bare, trees_back, mark, Begins, Found, Closed, AllRead, Okay, Tracks, kept_switch, halts, first, begins_name, begins_constant, arrive, reads_front, reads_items}
use Rattle.pc_parse.proofs.Leading.{Leads, one, onward}
use Rattle.pc_parse.proofs.Nodes.{true-false, inner, okay_of, opened, predicted, straight, tracks_self, tracks_open, inner_further, plain_further}
use Rattle.pc_parse.proofs.Statements.{IsFound}
use Rattle.pc_parse.proofs.Fronts.{kid_first}

pub labels : IsFound kind.Labels
labels [] Nil fit all root c st m fs rest begins awaits cor tl quiet = cc
labels [] (Cons i v ns is ts) fit all root c st m fs rest begins awaits cor tl quiet =
    let l = Kid class.Constant ∷ further (Some lexeme.Comma) class.Constant (count ts) [] in
    let n = Kid class.Constant ∷ [] in
    let ks = Cons i v ns is ts in
    let e : c ≡ class.Labels = only_at kind.Labels class.Labels c refl cor in
    predicted root kind.Labels [] ks l n c st fs rest refl (rw e refl) refl begins all fit
    (okay_of l [] ks rest fit (inner_further lexeme.Comma class.Constant (count ts) [] (look rest) refl refl refl) (λ p h. true-false (sym (plain_further (Some lexeme.Comma) class.Constant (count ts) [] refl) ∙ p)))
    (refl, tracks_open kind.Labels lexeme.Comma class.Constant (count ts) refl) (at_whenever ends_labels (halts kind.Labels) (look rest) refl tl)
labels (b ∷ w) ks fit all root c st m fs rest begins awaits cor tl quiet = cc

pub arms : IsFound kind.Arms
arms [] Nil fit all root c st m fs rest begins awaits cor tl quiet = cc
arms [] (Cons i v ns is ts) fit all root c st m fs rest begins awaits cor tl quiet =
    let l = Kid class.Arm ∷ further (Some lexeme.Semicolon) class.Arm (count ts) [] in
    let n = Kid class.Arm ∷ [] in
    let ks = Cons i v ns is ts in
    let e : c ≡ class.Arms = only_at kind.Arms class.Arms c refl cor in
    let behind : ends_part (look rest) ≡ true = at_whenever ends_parts ends_part (look rest) refl tl in
    predicted root kind.Arms [] ks l n c st fs rest refl (rw e refl) refl begins all fit
    (okay_of l [] ks rest fit (inner_further lexeme.Semicolon class.Arm (count ts) [] (look rest) refl refl behind) (λ p h. true-false (sym (plain_further (Some lexeme.Semicolon) class.Arm (count ts) [] refl) ∙ p)))
    (refl, tracks_open kind.Arms lexeme.Semicolon class.Arm (count ts) refl) (at_whenever ends_parts (halts kind.Arms) (look rest) refl tl)
arms (b ∷ w) ks fit all root c st m fs rest begins awaits cor tl quiet = cc

-- what a field begins with
abbrev begins_field : Option Lexeme → Bool
begins_field x = begins_name x || same_look x (Some (lexeme.Hole sort.Field))

field_first : (i : Kind) (s x : Option Lexeme) → has class.Field i && known i ≡ true → first i s x ≡ true → begins_field x ≡ true
field_first kind.Field s x h e = or_left (begins_name x) (same_look x (Some (lexeme.Hole sort.Field))) e
field_first (kind.Hole sort.Field) s x h e = or_right (begins_name x) (same_look x (Some (lexeme.Hole sort.Field))) e
field_first (kind.Hole _) s x h e = cc
field_first _ s x h e = cc

-- fields begin with a field
fields_start : (i : Kind) (v : List ℕ) (ns : List (List ℕ)) (is ts : Forest) (l : List Item) (rest : List Sym) → has class.Field i ≡ true → AllRead (Cons i v ns is ts)
    → start class.Fields (look ((symbols i v is ++ fill l [] (texts ts)) ++ rest)) ≡ Predict kind.Fields (Kid class.Field ∷ [])
fields_start i v ns is ts l rest member all =
    let x = look ((symbols i v is ++ fill l [] (texts ts)) ++ rest) in
    let begun : begins_field x ≡ true = field_first i (look (fill l [] (texts ts) ++ rest)) x (&&_join _ _ member all.0) (kid_first i v is l [] ts rest all.2) in
    predicts_to_eq _ _ _ (at_whenever begins_field (λ y. predicts_to (start class.Fields y) kind.Fields (Kid class.Field ∷ [])) x refl begun)

pub fields : IsFound kind.Fields
fields [] Nil fit all root c st m fs rest begins awaits cor tl quiet = cc
fields [] (Cons i v ns is ts) fit all root c st m fs rest begins awaits cor tl quiet =
    let f = further (Some lexeme.Semicolon) class.Field (count ts) [] in
    let l = Kid class.Field ∷ f in
    let n = Kid class.Field ∷ [] in
    let ks = Cons i v ns is ts in
    let x = look ((symbols i v is ++ fill f [] (texts ts)) ++ rest) in
    let e : c ≡ class.Fields = only_at kind.Fields class.Fields c refl cor in
    let opening : start class.Fields x ≡ Predict kind.Fields n = fields_start i v ns is ts f rest (&&_split _ _ fit).0 all in
    let behind : ends_part (look rest) ≡ true = at_whenever ends_parts ends_part (look rest) refl tl in
    predicted root kind.Fields [] ks l n c st fs rest refl (ap (λ b. start b x) e ∙ opening) refl begins all fit
    (okay_of l [] ks rest fit (inner_further lexeme.Semicolon class.Field (count ts) [] (look rest) refl refl behind) (λ p h. true-false (sym (plain_further (Some lexeme.Semicolon) class.Field (count ts) [] refl) ∙ p)))
    (refl, tracks_open kind.Fields lexeme.Semicolon class.Field (count ts) refl) (at_whenever ends_parts (halts kind.Fields) (look rest) refl tl)
fields (b ∷ w) ks fit all root c st m fs rest begins awaits cor tl quiet = cc

-- a list with a last separator: its items, its symbols, and how the machine goes through them
fits_closed : (x : Lexeme) (c : Class) (n : ℕ) (ks : List Kind) → fits (further (Some x) c n []) ks ≡ true → fits (further (Some x) c n (Literal x ∷ [])) ks ≡ true
fits_closed x c zero ks h = h
fits_closed x c (suc n) [] h = cc
fits_closed x c (suc n) (k ∷ ks) h = let p : (has c k ≡ true) × (fits (further (Some x) c n []) ks ≡ true) = &&_split _ _ h in rw (p.0, fits_closed x c n ks p.1) refl

fill_closed : (x : Lexeme) (c : Class) (w : List ℕ) (ts : Forest) (more : List Sym)
    → fill (further (Some x) c (count ts) []) w (texts ts) ++ mark x ∷ more ≡ fill (further (Some x) c (count ts) (Literal x ∷ [])) w (texts ts) ++ more
fill_closed x c w Nil more = refl
fill_closed x c w (Cons k v ns ks ts) more =
    let s = symbols k v ks in
    let f = fill (further (Some x) c (count ts) []) w (texts ts) in
    let g = fill (further (Some x) c (count ts) (Literal x ∷ [])) w (texts ts) in
    ap (λ z. mark x ∷ z) (append_assoc s f (mark x ∷ more) ∙ ap (λ z. s ++ z) (fill_closed x c w ts more) ∙ sym (append_assoc s g more))

tracks_left : (k : Kind) (x : Lexeme) (c : Class) (n : ℕ) → kept_switch (switch k [] (Some x)) ≡ Some (k, (Kid c ∷ [])) → Tracks k [] (further (Some x) c n (Literal x ∷ [])) k (Kid c ∷ [])
tracks_left k x c zero e = rw e (refl, refl)
tracks_left k x c (suc n) e = rw e (refl, tracks_left k x c n e)

-- the node past its last `;`
abbrev past : Kind → List Plain → Kind → Forest → Frame Plain
past j kids k ks = frame j (spelling_of lexeme.Semicolon) (kids ++ bare k [] ks ∷ []) (Literal lexeme.KeyEnd ∷ [])

closed_list : (k : Kind) (c : Class) (j : Kind) (g : Frame Plain) (i : Kind) (v : List ℕ) (ns : List (List ℕ)) (is ts : Forest) (root : Class) (kids : List Plain) (fs : List (Frame Plain)) (rest : List Sym)
    → layout k [] (suc (count ts)) ≡ Some (Kid c ∷ further (Some lexeme.Semicolon) c (count ts) [])
    → fits (Kid c ∷ further (Some lexeme.Semicolon) c (count ts) []) (i ∷ kinds ts) ≡ true → AllRead (Cons i v ns is ts)
    → follow c (Some lexeme.Semicolon) ≡ true → plain_class c ≡ true → kept_switch (switch k [] (Some lexeme.Semicolon)) ≡ Some (k, (Kid c ∷ []))
    → ((ys : List Sym) → ys ≡ (symbols i v is ++ fill (further (Some lexeme.Semicolon) c (count ts) []) [] (texts ts)) ++ (mark lexeme.Semicolon ∷ mark lexeme.KeyEnd ∷ rest) → step root (Reading g fs) ys ≡ Go (Reading (frame k [] [] (Kid c ∷ [])) (g ∷ fs)) ys)
    → step root (Reading (frame k [] (trees_of (Cons i v ns is ts)) (Kid c ∷ [])) (g ∷ fs)) (mark lexeme.KeyEnd ∷ rest)
    ≡ Go (Reading (frame j (spelling_of lexeme.Semicolon) (kids ++ make_plain k [] (trees_of (Cons i v ns is ts)) ∷ []) (Literal lexeme.KeyEnd ∷ [])) fs) (mark lexeme.KeyEnd ∷ rest)
    → Leads root (Reading g fs) (symbols k [] (Cons i v ns is ts) ++ (mark lexeme.Semicolon ∷ mark lexeme.KeyEnd ∷ rest)) (Reading (past j kids k (Cons i v ns is ts)) fs) (mark lexeme.KeyEnd ∷ rest)
closed_list k c j g i v ns is ts root kids fs rest made fit all follows plain turns opens ends =
    let ks = Cons i v ns is ts in
    let x = lexeme.Semicolon in
    let f = further (Some x) c (count ts) [] in
    let l = Kid c ∷ further (Some x) c (count ts) (Literal x ∷ []) in
    let z = mark lexeme.KeyEnd ∷ rest in
    let s = symbols i v is in
    let r = fill (further (Some x) c (count ts) (Literal x ∷ [])) [] (texts ts) in
    let input : symbols k [] ks ++ mark x ∷ z ≡ (s ++ fill f [] (texts ts)) ++ mark x ∷ z = rw made refl in
    let split : (s ++ fill f [] (texts ts)) ++ mark x ∷ z ≡ fill l [] (texts ks) ++ z =
    append_assoc s (fill f [] (texts ts)) (mark x ∷ z) ∙ ap (λ y. s ++ y) (fill_closed x c [] ts z) ∙ sym (append_assoc s r z) in
    let p : (has c i ≡ true) × (fits f (kinds ts) ≡ true) = &&_split _ _ fit in
    let fit_l : fits l (kinds ks) ≡ true = &&_join _ _ p.0 (fits_closed x c (count ts) (kinds ts) p.1) in
    let close : inner (Kid c ∷ Literal x ∷ []) (look z) ≡ true = rw (follows, plain) refl in
    let okay : Okay l [] ks z = okay_of l [] ks z fit_l (inner_further x c (count ts) (Literal x ∷ []) (look z) follows refl close) (λ q h. true-false (sym (plain_further (Some x) c (count ts) (Literal x ∷ []) refl) ∙ q)) in
    let first_step : step root (Reading g fs) (fill l [] (texts ks) ++ z) ≡ Go (Reading (frame k [] [] (Kid c ∷ [])) (g ∷ fs)) (fill l [] (texts ks) ++ z) = opens (fill l [] (texts ks) ++ z) (sym split) in
    rw (input, split)
    (onward (one root _ _ _ _ first_step)
    (onward (reads_front root l ks k (Kid c ∷ []) k (Kid c ∷ []) [] [] (g ∷ fs) z all fit_l okay (refl, tracks_left k x c (count ts) turns))
    (arrive root _ _ _ _ _ (ap (λ us. Reading (past j kids k us) fs) (trees_back ks)) (one root _ _ _ _ ends))))

pub arm : IsFound kind.Arm
arm [] Nil fit all root c st m fs rest begins awaits cor tl quiet = cc
arm [] (Cons i v ns is ts) fit all root c st m fs rest begins awaits cor tl quiet =
    let l = Kid class.Labels ∷ Literal lexeme.Colon ∷ Kid class.Statement ∷ [] in
    let r = Literal lexeme.Colon ∷ Kid class.Statement ∷ [] in
    let ks = Cons i v ns is ts in
    let e : c ≡ class.Arm = only_at kind.Arm class.Arm c refl cor in
    let x = look ((symbols i v is ++ fill r [] (texts ts)) ++ rest) in
    let s = look (fill r [] (texts ts) ++ rest) in
    let list : i ≡ kind.Labels = one_at class.Labels kind.Labels i refl (&&_join _ _ (&&_split _ _ fit).0 all.0) in
    let begun : begins_constant x ≡ true = ap (λ o. first o s x) (sym list) ∙ kid_first i v is r [] ts rest all.2 in
    let opening : start class.Arm x ≡ Predict kind.Arm l = predicts_to_eq _ _ _ (at_whenever begins_constant (λ y. predicts_to (start class.Arm y) kind.Arm l) x refl begun) in
    let behind : ends_statement (look rest) ≡ true = at_whenever ends_part ends_statement (look rest) refl tl in
    predicted root kind.Arm [] ks l l c st fs rest refl (ap (λ b. start b x) e ∙ opening) refl begins all fit
    (okay_of l [] ks rest fit behind (λ p h. true-false (sym tl ∙ ap ends_part h))) (tracks_self kind.Arm l refl) refl
arm (b ∷ w) ks fit all root c st m fs rest begins awaits cor tl quiet = cc

pub field : IsFound kind.Field
field [] Nil fit all root c st m fs rest begins awaits cor tl quiet = cc
field [] (Cons i v ns is ts) fit all root c st m fs rest begins awaits cor tl quiet =
    let l = Kid class.Names ∷ Literal lexeme.Colon ∷ Kid class.Denoter ∷ [] in
    let r = Literal lexeme.Colon ∷ Kid class.Denoter ∷ [] in
    let ks = Cons i v ns is ts in
    let e : c ≡ class.Field = only_at kind.Field class.Field c refl cor in
    let x = look ((symbols i v is ++ fill r [] (texts ts)) ++ rest) in
    let s = look (fill r [] (texts ts) ++ rest) in
    let list : i ≡ kind.Names = one_at class.Names kind.Names i refl (&&_join _ _ (&&_split _ _ fit).0 all.0) in
    let begun : begins_name x ≡ true = ap (λ o. first o s x) (sym list) ∙ kid_first i v is r [] ts rest all.2 in
    let opening : start class.Field x ≡ Predict kind.Field l = predicts_to_eq _ _ _ (at_whenever begins_name (λ y. predicts_to (start class.Field y) kind.Field l) x refl begun) in
    let behind : ends_denoter (look rest) ≡ true = at_whenever ends_part ends_denoter (look rest) refl tl in
    predicted root kind.Field [] ks l l c st fs rest refl (ap (λ b. start b x) e ∙ opening) refl begins all fit
    (okay_of l [] ks rest fit behind (λ p h. true-false p)) (tracks_self kind.Field l refl) refl
field (b ∷ w) ks fit all root c st m fs rest begins awaits cor tl quiet = cc

pub arms_closed : (w : List ℕ) (ks : Forest) → fits_some (layout kind.Arms w (count ks)) (kinds ks) ≡ true → AllRead ks → Closed kind.Arms w ks
arms_closed (b ∷ w) ks fit all root l j u kids m fs rest h = cc
arms_closed [] Nil fit all root l j u kids m fs rest h = cc
arms_closed [] (Cons i v ns is ts) fit all root (Kid class.Arm ∷ []) kind.Case u kids (Kid class.Arms ∷ Literal lexeme.KeyEnd ∷ []) fs rest h =
    let g = frame kind.Case u kids (Kid class.Arms ∷ Literal lexeme.KeyEnd ∷ []) in
    closed_list kind.Arms class.Arm kind.Case g i v ns is ts root kids fs rest refl fit all refl refl refl (λ ys e. refl) refl
arms_closed [] (Cons i v ns is ts) fit all root _ _ u kids _ fs rest h = cc

pub fields_closed : (w : List ℕ) (ks : Forest) → fits_some (layout kind.Fields w (count ks)) (kinds ks) ≡ true → AllRead ks → Closed kind.Fields w ks
fields_closed (b ∷ w) ks fit all root l j u kids m fs rest h = cc
fields_closed [] Nil fit all root l j u kids m fs rest h = cc
fields_closed [] (Cons i v ns is ts) fit all root (Kid class.Field ∷ []) kind.Record u kids (Kid class.Fields ∷ Literal lexeme.KeyEnd ∷ []) fs rest h =
    let g = frame kind.Record u kids (Kid class.Fields ∷ Literal lexeme.KeyEnd ∷ []) in
    let f = further (Some lexeme.Semicolon) class.Field (count ts) [] in
    let opening = fields_start i v ns is ts f (mark lexeme.Semicolon ∷ mark lexeme.KeyEnd ∷ rest) (&&_split _ _ fit).0 all in
    closed_list kind.Fields class.Field kind.Record g i v ns is ts root kids fs rest refl fit all refl refl refl
    (λ ys e. rw (ap (λ zs. start class.Fields (look zs)) e ∙ opening) refl) refl
fields_closed [] (Cons i v ns is ts) fit all root _ _ u kids _ fs rest h = cc

abbrev last_semicolon : List ℕ
last_semicolon = spelling_of lexeme.Semicolon

case_closed : (ks : Forest) → fits (Kid class.Expression ∷ Literal lexeme.KeyOf ∷ Kid class.Arms ∷ Literal lexeme.Semicolon ∷ Literal lexeme.KeyEnd ∷ []) (kinds ks) ≡ true → AllRead ks → Found kind.Case last_semicolon ks
case_closed Nil fit all root c st m fs rest begins awaits cor tl quiet = cc
case_closed (Cons a u os hs Nil) fit all root c st m fs rest begins awaits cor tl quiet = true-false (sym (&&_split _ _ fit).1)
case_closed (Cons a u os hs (Cons b v ps bs (Cons d z qs ds ts))) fit all root c st m fs rest begins awaits cor tl quiet = true-false (sym (&&_split _ _ (&&_split _ _ fit).1).1)
case_closed (Cons a u os hs (Cons b v ps bs Nil)) fit all root c st m fs rest begins awaits cor tl quiet =
    let close = Literal lexeme.KeyEnd ∷ [] in
    let n = Kid class.Expression ∷ Literal lexeme.KeyOf ∷ Kid class.Arms ∷ close in
    let l = Kid class.Expression ∷ Literal lexeme.KeyOf ∷ [] in
    let ks = Cons a u os hs (Cons b v ps bs Nil) in
    let alone = Cons a u os hs Nil in
    let chosen = symbols a u hs in
    let arms_text = symbols b v bs in
    let ends = mark lexeme.Semicolon ∷ mark lexeme.KeyEnd ∷ [] in
    let behind = mark lexeme.Semicolon ∷ mark lexeme.KeyEnd ∷ rest in
    let more = arms_text ++ behind in
    let fit2 = &&_split _ _ fit in
    let fit3 = &&_split _ _ fit2.1 in
    let list : b ≡ kind.Arms = one_at class.Arms kind.Arms b refl (&&_join _ _ fit3.0 all.4.0) in
    let left : (chosen ++ (mark lexeme.KeyOf ∷ (arms_text ++ ends))) ++ rest ≡ chosen ++ (mark lexeme.KeyOf ∷ more) =
    append_assoc chosen (mark lexeme.KeyOf ∷ (arms_text ++ ends)) rest ∙ ap (λ y. chosen ++ (mark lexeme.KeyOf ∷ y)) (append_assoc arms_text ends rest) in
    let right : fill l [] (texts alone) ++ more ≡ chosen ++ (mark lexeme.KeyOf ∷ more) = append_assoc chosen (mark lexeme.KeyOf ∷ []) more in
    let input : symbols kind.Case last_semicolon ks ++ rest ≡ mark lexeme.KeyCase ∷ (fill l [] (texts alone) ++ more) = ap (λ ys. mark lexeme.KeyCase ∷ ys) (left ∙ sym right) in
    let begun : Begins root st c fs (mark lexeme.KeyCase ∷ (fill l [] (texts alone) ++ more)) = rw input at begins in
    let opening : start c (Some lexeme.KeyCase) ≡ Open kind.Case [] n = opens_at kind.Case kind.Case [] (Some lexeme.KeyCase) n c refl cor in
    let next : step root st (mark lexeme.KeyCase ∷ (fill l [] (texts alone) ++ more)) ≡ Go (Reading (frame kind.Case [] [] n) fs) (fill l [] (texts alone) ++ more) = begun (rw opening refl) ∙ rw opening refl in
    let fit_alone : fits l (kinds alone) ≡ true = &&_join _ _ fit2.0 refl in
    let okay : Okay l [] alone more = okay_of l [] alone more fit_alone refl (λ p e. true-false p) in
    let ending : closes b (Kid class.Arm ∷ []) kind.Case (Kid class.Arms ∷ close) ≡ true = rw list refl in
    rw input
    (onward (one root _ _ _ _ next)
    (onward (reads_front root l alone kind.Case n kind.Case (Kid class.Arms ∷ close) [] [] fs more (all.0, all.1, all.2, all.3, tt) fit_alone okay (refl, (refl, refl)))
    (onward (all.4.3.1 root (Kid class.Arm ∷ []) kind.Case [] (trees_of alone) (Kid class.Arms ∷ close) fs rest ending)
    (arrive root _ _ _ _ _ (ap (λ ns. Holding kind.Case (bare kind.Case last_semicolon (Cons a u os hs (Cons b v ns bs Nil))) fs) (sym all.4.1))
    (reads_items root close Nil kind.Case close kind.Case last_semicolon (trees_of alone ++ bare b v bs ∷ []) fs rest tt refl tt (refl, refl) refl)))))

abbrev case_items : List Item
case_items = Literal lexeme.KeyCase ∷ Kid class.Expression ∷ Literal lexeme.KeyOf ∷ Kid class.Arms ∷ Literal lexeme.Semicolon ∷ Literal lexeme.KeyEnd ∷ []

pub case_of : IsFound kind.Case
case_of [] ks fit all root c st m fs rest begins awaits cor tl quiet =
    let l = Kid class.Expression ∷ Literal lexeme.KeyOf ∷ Kid class.Arms ∷ Literal lexeme.KeyEnd ∷ [] in
    straight root kind.Case [] ks lexeme.KeyCase l c st fs rest refl (opens_at kind.Case kind.Case [] (Some lexeme.KeyCase) l c refl cor) refl begins all fit refl (λ p e. true-false p) refl
case_of (b ∷ w) ks fit all root c st m fs rest begins awaits cor tl quiet = go (bytes_eq (b ∷ w) last_semicolon) refl fit root c st m fs rest begins awaits cor tl quiet
  where
    go : (t : Bool) → bytes_eq (b ∷ w) last_semicolon ≡ t → fits_some (if t then Some case_items else None) (kinds ks) ≡ true → Found kind.Case (b ∷ w) ks
    go true e f = subst (λ u. Found kind.Case u ks) (sym (same_word_eq (b ∷ w) last_semicolon e)) (case_closed ks f all)
    go false e f = cc

record_closed : (ks : Forest) → fits (Kid class.Fields ∷ Literal lexeme.Semicolon ∷ Literal lexeme.KeyEnd ∷ []) (kinds ks) ≡ true → AllRead ks → Found kind.Record last_semicolon ks
record_closed Nil fit all root c st m fs rest begins awaits cor tl quiet = cc
record_closed (Cons a u os hs (Cons b v ps bs ts)) fit all root c st m fs rest begins awaits cor tl quiet = true-false (sym (&&_split _ _ fit).1)
record_closed (Cons b v ps bs Nil) fit all root c st m fs rest begins awaits cor tl quiet =
    let close = Literal lexeme.KeyEnd ∷ [] in
    let n = Kid class.Fields ∷ close in
    let ks = Cons b v ps bs Nil in
    let fields_text = symbols b v bs in
    let ends = mark lexeme.Semicolon ∷ mark lexeme.KeyEnd ∷ [] in
    let more = fields_text ++ (mark lexeme.Semicolon ∷ mark lexeme.KeyEnd ∷ rest) in
    let list : b ≡ kind.Fields = one_at class.Fields kind.Fields b refl (&&_join _ _ (&&_split _ _ fit).0 all.0) in
    let input : symbols kind.Record last_semicolon ks ++ rest ≡ mark lexeme.KeyRecord ∷ more = ap (λ ys. mark lexeme.KeyRecord ∷ ys) (append_assoc fields_text ends rest) in
    let begun : Begins root st c fs (mark lexeme.KeyRecord ∷ more) = rw input at begins in
    let opening : start c (Some lexeme.KeyRecord) ≡ Open kind.Record [] n = opens_at kind.Record kind.Record [] (Some lexeme.KeyRecord) n c refl cor in
    let next : step root st (mark lexeme.KeyRecord ∷ more) ≡ Go (Reading (frame kind.Record [] [] n) fs) more = begun (rw opening refl) ∙ rw opening refl in
    let ending : closes b (Kid class.Field ∷ []) kind.Record n ≡ true = rw list refl in
    rw input
    (onward (one root _ _ _ _ next)
    (onward (all.3.1 root (Kid class.Field ∷ []) kind.Record [] [] n fs rest ending)
    (arrive root _ _ _ _ _ (ap (λ ns. Holding kind.Record (bare kind.Record last_semicolon (Cons b v ns bs Nil)) fs) (sym all.1))
    (reads_items root close Nil kind.Record close kind.Record last_semicolon (bare b v bs ∷ []) fs rest tt refl tt (refl, refl) refl))))

abbrev record_items : List Item
record_items = Literal lexeme.KeyRecord ∷ Kid class.Fields ∷ Literal lexeme.Semicolon ∷ Literal lexeme.KeyEnd ∷ []

pub record_type : IsFound kind.Record
record_type [] ks fit all root c st m fs rest begins awaits cor tl quiet =
    let l = Kid class.Fields ∷ Literal lexeme.KeyEnd ∷ [] in
    straight root kind.Record [] ks lexeme.KeyRecord l c st fs rest refl (opens_at kind.Record kind.Record [] (Some lexeme.KeyRecord) l c refl cor) refl begins all fit refl (λ p e. true-false p) refl
record_type (b ∷ w) ks fit all root c st m fs rest begins awaits cor tl quiet = go (bytes_eq (b ∷ w) last_semicolon) refl fit root c st m fs rest begins awaits cor tl quiet
  where
    go : (t : Bool) → bytes_eq (b ∷ w) last_semicolon ≡ t → fits_some (if t then Some record_items else None) (kinds ks) ≡ true → Found kind.Record (b ∷ w) ks
    go true e f = subst (λ u. Found kind.Record u ks) (sym (same_word_eq (b ∷ w) last_semicolon e)) (record_closed ks f all)
    go false e f = cc

pub empty_record : IsFound kind.Record0
empty_record [] ks fit all root c st m fs rest begins awaits cor tl quiet =
    let n = Kid class.Fields ∷ Literal lexeme.KeyEnd ∷ [] in
    opened root kind.Record0 [] ks lexeme.KeyRecord (Literal lexeme.KeyEnd ∷ []) kind.Record n c st fs rest refl (opens_at kind.Record0 kind.Record [] (Some lexeme.KeyRecord) n c refl cor) begins all fit tt (refl, refl) refl
empty_record (b ∷ w) ks fit all root c st m fs rest begins awaits cor tl quiet = cc
