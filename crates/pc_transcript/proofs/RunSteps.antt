-- What one more reply, and the end of a run, do to what was written.
use Rattle.std.proofs.Common.{if◌then◌else◌, ◌≡◌, ℕ, ◌≤◌, ◌<◌, ◌+◌, Bool, true, false, List, [], ◌∷◌, ◌++◌, take, length, map, Option, Some, None, refl, sym, ◌∙◌, append_assoc, subst}
use Rattle.std.proofs.lemmas.List.{append-nil, take-append-le}
use Rattle.std.proofs.lemmas.Bool.{ltb-true, ltb-false}
use Rattle.std.proofs.KnownBytes.{Consumes-trans}
use Rattle.std.proofs.Math.Seq.{take-append-add, take-append_seam}
use Rattle.std.specs.Option.{IfSome}
use Rattle.std.specs.Io.KnownBytes.{Appends, Consumes}
use Rattle.pc_world.specs.Appended.{Appends-none, Appends-more}
use Rattle.pc_world.specs.Files.{Files}
use Rattle.pc_script.specs.Ahead.{Ahead, Takes}
use Rattle.pc_script.specs.Script.{commands_in, unit_limit, unit_count}
use Rattle.pc_script.specs.ScriptLaws.{script-further}
use Rattle.pc_script.specs.Reading.{Reading, Took, Took-more, Fails, IsMet, MayCome-left}
use Rattle.pc_script.specs.declared.given.Given.{Given}
use Rattle.pc_script.specs.declared.ahead.Next.TheVariants.{Item, End, TooMany}
use Rattle.pc_transcript.specs.State.{State}
use Rattle.pc_transcript.specs.Obeying.{Answers, Answers-no_memory, no_memory}
use Rattle.pc_transcript.specs.Transcript.{written_of, Replies, WritesTranscript, WritesFront, WritesReplies, WritesPart, WritesAnswer, Went}
use Rattle.pc_transcript.specs.declared.piece.Piece.{Piece}
use Rattle.pc_transcript.specs.declared.status.Status.{Status}
use Rattle.pc_transcript.specs.declared.status.Status.TheVariants.{Done, TooManyLines}

-- Replies, one after another.

Replies-nil : (s : State) → Replies s [] [] s
unfolding Replies
Replies-nil s = refl

Replies-first : (s : State) (given : Given) (piece : Piece) (m : State) (more : List Given) (pieces : List Piece) (t : State) →
    Answers s given piece m → Replies m more pieces t → Replies s (given ∷ more) (piece ∷ pieces) t
unfolding Replies
Replies-first s given piece m more pieces t answers replies = (m, answers, replies)

Replies-one : (s : State) (given : Given) (piece : Piece) (t : State) → Answers s given piece t → Replies s (given ∷ []) (piece ∷ []) t
Replies-one s given piece t answers = Replies-first s given piece t [] [] t answers (Replies-nil t)

Replies-more : (s : State) (first : List Given) (pieces : List Piece) (m : State) (second : List Given) (more : List Piece) (t : State) →
    Replies s first pieces m → Replies m second more t → Replies s (first ++ second) (pieces ++ more) t
unfolding Replies
Replies-more s [] [] m second more t r q = let P : State → Type 0 = λ x. Replies x second more t in subst P r q
Replies-more s [] (piece ∷ pieces) m second more t r q = absurd r
Replies-more s (given ∷ first) [] m second more t r q = absurd r
Replies-more s (given ∷ first) (piece ∷ pieces) m second more t r q = (r.0, r.1, Replies-more r.0 first pieces m second more t r.2 q)

-- Any commands may be replied to: there may be no memory.
Replies-exist : (s : State) (commands : List Given) → Replies s commands (map (λ _. no_memory) commands) s
unfolding Replies
Replies-exist s [] = refl
Replies-exist s (given ∷ more) = (s, Answers-no_memory s given, Replies-exist s more)

written_of-more : (pieces more : List Piece) → written_of (pieces ++ more) ≡ written_of pieces ++ written_of more
unfolding written_of
written_of-more [] more = refl
written_of-more (piece ∷ pieces) more = rw (written_of-more pieces more, append_assoc) refl

written_of-none : written_of [] ≡ []
unfolding written_of
written_of-none = refl

written_of-cons : (piece : Piece) (more : List Piece) → written_of (piece ∷ more) ≡ piece.text ++ written_of more
unfolding written_of
written_of-cons piece more = refl

-- How far a run came: these commands are done, and replies to them were written.
pub record Progress (from : Reading Given) (s : State) (before : Option (List ℕ)) (to : Reading Given) (t : State) (now : Option (List ℕ)) : Type 0 where
  pub done : List Given
  pub took : Took from to (Went done)
  pub pieces : List Piece
  pub replies : Replies s done pieces t
  pub written : Appends before now (written_of pieces)

Consumes-none : (left : Option (List ℕ)) → Consumes left left []
Consumes-none None = tt
Consumes-none (Some bytes) = refl

pub Progress-none : (from : Reading Given) (s : State) (before : Option (List ℕ)) → Progress from s before from s before
Progress-none from s before = record {
  done = [];
  took = record { taken = []; consumed = Consumes-none from.left; may = λ rest more may. may; met = λ met. met; step = λ rest more may. (refl, refl) };
  pieces = [];
  replies = Replies-nil s;
  written = rw written_of-none (Appends-none before);
}

Went-more : (done : List Given) (given : Given) (a b c : Ahead Given) → Went done a b → Takes (Item given) b c → Went (done ++ given ∷ []) a c
Went-more done given a b c went takes = (rw (went.0, takes.0, append_assoc) refl, takes.1 ∙ went.1)

written_of-one : (pieces : List Piece) (piece : Piece) → written_of (pieces ++ piece ∷ []) ≡ written_of pieces ++ piece.text
unfolding written_of
written_of-one pieces piece = written_of-more pieces (piece ∷ []) ∙ rw (append-nil piece.text) refl

pub Progress-more : (from : Reading Given) (s : State) (before : Option (List ℕ)) (to : Reading Given) (t : State) (now : Option (List ℕ))
    (next : Reading Given) (given : Given) (u : State) (later : Option (List ℕ)) →
    Progress from s before to t now → Took to next (Takes (Item given)) → WritesAnswer t given u now later → Progress from s before next u later
Progress-more from s before to t now next given u later p took answer = record {
  done = p.done ++ given ∷ [];
  took = Took-more from to next (Went p.done) (Takes (Item given)) (Went (p.done ++ given ∷ [])) p.took took (Went-more p.done given);
  pieces = p.pieces ++ answer.piece ∷ [];
  replies = Replies-more s p.done p.pieces t (given ∷ []) (answer.piece ∷ []) u p.replies (Replies-one t given answer.piece u answer.answers);
  written = rw (written_of-one p.pieces answer.piece) (Appends-more before now later (written_of p.pieces) answer.piece.text p.written answer.written);
}

-- What is told of the bytes that were left.

pub IfSome-all : {X : Type 0} (told : Option X) (P : X → Type 0) → ((x : X) → told ≡ Some x → P x) → IfSome told P
IfSome-all None P all = tt
IfSome-all (Some x) P all = all x refl

IfSome-more : {X : Type 0} (told : Option X) (P Q : X → Type 0) → ((x : X) → P x → Q x) → IfSome told P → IfSome told Q
IfSome-more None P Q more p = tt
IfSome-more (Some x) P Q more p = more x p

left_after : (before after : Option (List ℕ)) (taken bytes : List ℕ) → Consumes before after taken → before ≡ Some bytes → (left : List ℕ) × (after ≡ Some left) × (bytes ≡ taken ++ left)
left_after None after taken bytes consumed told = cc
left_after (Some xs) None taken bytes consumed told = absurd consumed
left_after (Some xs) (Some ys) taken bytes consumed told = (ys, refl, let same : xs ≡ bytes = cc in rw (← same) consumed)

-- What was taken and what is left make up the script.
whole : {X : Type 0} (from to : Reading X) (P : Ahead X → Ahead X → Type 0) (bytes : List ℕ) → Took from to P → from.ended ≡ false → from.left ≡ Some bytes →
    (left : List ℕ) × P (from.ahead bytes false) (to.ahead left false)
whole from to P bytes took unended told =
    let left = left_after from.left to.left took.taken bytes took.consumed told in
    let met : IsMet from = λ ended. let no : true ≡ false = sym ended ∙ unended in cc in
    let R : List ℕ → Type 0 = λ ys. P (from.ahead ys false) (to.ahead left.0 false) in
    (left.0, subst R (sym left.2) (took.step left.0 false (MayCome-left to left.0 (took.met met) left.1)))

-- Replies to the first commands of a script are a front of a transcript's pieces.
front_of : (script : Ahead Given) (s t : State) (done rest : List Given) (pieces : List Piece) (before now : Option (List ℕ)) →
    script.items ≡ done ++ rest → Replies s done pieces t → Appends before now (written_of pieces) → WritesFront script s before now
front_of script s t done rest pieces before now is replies written =
    let more = map (λ _. no_memory) rest in
    record {
      pieces = pieces ++ more;
      last = t;
      status = if script.further then TooManyLines else Done;
      transcript = record { replies = rw is (Replies-more s done pieces t rest more t replies (Replies-exist t rest)); ends = refl };
      count = length (written_of pieces);
      written = rw (written_of-more pieces more, take-append_seam (written_of pieces) (written_of more)) written;
    }

-- The same, where of one more reply a part is written.
front_with : (script : Ahead Given) (s t : State) (done : List Given) (given : Given) (rest : List Given) (pieces : List Piece) (before now later : Option (List ℕ)) →
    script.items ≡ done ++ given ∷ rest → Replies s done pieces t → Appends before now (written_of pieces) → WritesPart t given now later → WritesFront script s before later
front_with script s t done given rest pieces before now later is replies written part =
    let more = map (λ _. no_memory) rest in
    let u = part.last in
    record {
      pieces = pieces ++ part.piece ∷ more;
      last = u;
      status = if script.further then TooManyLines else Done;
      transcript = record {
        replies = rw is (Replies-more s done pieces t (given ∷ rest) (part.piece ∷ more) u replies
            (Replies-first t given part.piece u rest more u part.answers (Replies-exist u rest)));
        ends = refl;
      };
      count = length (written_of pieces) + part.count;
      written = rw (
        written_of-more pieces (part.piece ∷ more),
        written_of-cons part.piece more,
        take-append-add (written_of pieces) (part.piece.text ++ written_of more) part.count,
        take-append-le part.count part.piece.text (written_of more) part.within,
      )
          (Appends-more before now later (written_of pieces) (take part.count part.piece.text) written part.written);
    }

-- Before any command is read nothing is written.
pub WritesFront-none : (script : Ahead Given) (s : State) (before : Option (List ℕ)) → WritesFront script s before before
WritesFront-none script s before = front_of script s s [] script.items [] before before refl (Replies-nil s) (rw written_of-none (Appends-none before))

-- A run that ended early has written a front of a transcript's pieces.
pub Progress-front : (from : Reading Given) (s : State) (before : Option (List ℕ)) (to : Reading Given) (t : State) (now : Option (List ℕ)) →
    Progress from s before to t now → from.ended ≡ false → IfSome from.left (λ bytes. WritesFront (from.ahead bytes false) s before now)
Progress-front from s before to t now p unended = IfSome-all from.left _ (λ bytes told.
    let w = whole from to (Went p.done) bytes p.took unended told in
    front_of (from.ahead bytes false) s t p.done (to.ahead w.0 false).items p.pieces before now w.1.0 p.replies p.written)

pub Progress-part : (from : Reading Given) (s : State) (before : Option (List ℕ)) (to : Reading Given) (t : State) (now : Option (List ℕ))
    (next : Reading Given) (given : Given) (later : Option (List ℕ)) →
    Progress from s before to t now → Took to next (Takes (Item given)) → WritesPart t given now later → from.ended ≡ false →
    IfSome from.left (λ bytes. WritesFront (from.ahead bytes false) s before later)
Progress-part from s before to t now next given later p took part unended = IfSome-all from.left _ (λ bytes told.
    let more = Took-more from to next (Went p.done) (Takes (Item given)) (Went (p.done ++ given ∷ [])) p.took took (Went-more p.done given) in
    let w = whole from next (Went (p.done ++ given ∷ [])) bytes more unended told in
    front_with (from.ahead bytes false) s t p.done given (next.ahead w.0 false).items p.pieces before now later (rw append_assoc at w.1.0) p.replies p.written part)

-- These commands are all, and whether the script goes on after them.
abbrev IsAll : List Given → Bool → Ahead Given → Ahead Given → Type 0
IsAll done further a b = (a.items ≡ done) × (a.further ≡ further)

IsAll-done : (done : List Given) (a b c : Ahead Given) → Went done a b → Takes End b c → IsAll done false a c
IsAll-done done a b c went takes = (rw (went.0, takes.0.0, append-nil) refl, sym went.1 ∙ takes.0.1)

IsAll-cut_off : (done : List Given) (a b c : Ahead Given) → Went done a b → Takes TooMany b c → IsAll done true a c
IsAll-cut_off done a b c went takes = (rw (went.0, takes.0.0, append-nil) refl, sym went.1 ∙ takes.0.1)

-- A run that came to the end of the script has written all of a transcript.
Progress-all : (from : Reading Given) (s : State) (before : Option (List ℕ)) (to : Reading Given) (t : State) (now : Option (List ℕ)) (next : Reading Given)
    (further : Bool) (kept : Option Files) (p : Progress from s before to t now) → Took from next (IsAll p.done further) → from.ended ≡ false → kept ≡ t.files →
    IfSome from.left (λ bytes. WritesTranscript (from.ahead bytes false) s before now kept (if further then TooManyLines else Done))
Progress-all from s before to t now next further kept p took unended files = IfSome-all from.left _ (λ bytes told.
    let w = whole from next (IsAll p.done further) bytes took unended told in
    record {
      pieces = p.pieces;
      last = t;
      transcript = record { replies = rw w.1.0 p.replies; ends = rw w.1.1 refl };
      written = p.written;
      files = files;
    })

pub Progress-done : (from : Reading Given) (s : State) (before : Option (List ℕ)) (to : Reading Given) (t : State) (now : Option (List ℕ)) (next : Reading Given) (kept : Option Files) →
    Progress from s before to t now → Took to next (Takes End) → from.ended ≡ false → kept ≡ t.files →
    IfSome from.left (λ bytes. WritesTranscript (from.ahead bytes false) s before now kept Done)
Progress-done from s before to t now next kept p took unended files =
    let all = Took-more from to next (Went p.done) (Takes End) (IsAll p.done false) p.took took (IsAll-done p.done) in
    Progress-all from s before to t now next false kept p all unended files

pub Progress-cut_off : (from : Reading Given) (s : State) (before : Option (List ℕ)) (to : Reading Given) (t : State) (now : Option (List ℕ)) (next : Reading Given) (kept : Option Files) →
    Progress from s before to t now → Took to next (Takes TooMany) → from.ended ≡ false → kept ≡ t.files →
    IfSome from.left (λ bytes. WritesTranscript (from.ahead bytes false) s before now kept TooManyLines)
Progress-cut_off from s before to t now next kept p took unended files =
    let all = Took-more from to next (Went p.done) (Takes TooMany) (IsAll p.done true) p.took took (IsAll-cut_off p.done) in
    Progress-all from s before to t now next true kept p all unended files

-- After a failed read exactly the replies to the commands that stand whole in the bytes taken are written.
pub Progress-failed : (from : Reading Given) (s : State) (before : Option (List ℕ)) (to : Reading Given) (t : State) (now after : Option (List ℕ)) (kept : Option Files) →
    Progress from s before to t now → Fails to after → kept ≡ t.files →
    (taken : List ℕ) × Consumes from.left after taken × WritesReplies (from.ahead taken true).items s before now kept
Progress-failed from s before to t now after kept p failed files =
    let step = p.took.step failed.taken true failed.may in
    let items : (from.ahead (p.took.taken ++ failed.taken) true).items ≡ p.done = step.0 ∙ rw (failed.none.0, append-nil) refl in (
      p.took.taken ++ failed.taken,
      Consumes-trans from.left to.left after p.took.taken failed.taken p.took.consumed failed.consumed,
      record { pieces = p.pieces; last = t; replies = rw items p.replies; written = p.written; files = files },
    )

-- What the status of a transcript says of the script's units.

ends-done : (further : Bool) → Done ≡ (if further then TooManyLines else Done) → further ≡ false
ends-done true e = cc
ends-done false e = refl

ends-cut_off : (further : Bool) → TooManyLines ≡ (if further then TooManyLines else Done) → further ≡ true
ends-cut_off true e = refl
ends-cut_off false e = cc

pub few_units : (told : Option (List ℕ)) (ahead : List ℕ → Bool → Ahead Given) (s : State) (before now : Option (List ℕ)) (kept : Option Files) (status : Status) →
    ((bytes : List ℕ) (more : Bool) → ahead bytes more ≡ commands_in bytes more) → status ≡ Done →
    IfSome told (λ bytes. WritesTranscript (ahead bytes false) s before now kept status) → IfSome told (λ bytes. unit_count bytes ≤ unit_limit)
few_units told ahead s before now kept status fresh is = IfSome-more told _ _ (λ bytes w.
    let ends = rw (is, fresh bytes false) at w.transcript.ends in
    ltb-false _ _ (sym (script-further bytes) ∙ ends-done _ ends))

pub many_units : (told : Option (List ℕ)) (ahead : List ℕ → Bool → Ahead Given) (s : State) (before now : Option (List ℕ)) (kept : Option Files) (status : Status) →
    ((bytes : List ℕ) (more : Bool) → ahead bytes more ≡ commands_in bytes more) → status ≡ TooManyLines →
    IfSome told (λ bytes. WritesTranscript (ahead bytes false) s before now kept status) → IfSome told (λ bytes. unit_limit < unit_count bytes)
many_units told ahead s before now kept status fresh is = IfSome-more told _ _ (λ bytes w.
    let ends = rw (is, fresh bytes false) at w.transcript.ends in
    ltb-true _ _ (sym (script-further bytes) ∙ ends-cut_off _ ends))
