-- Each new type is followed, one after another.
use Rattle.std.proofs.Common.{◌≡◌, ℕ, ◌+◌, Bool, List, get_or, length, subst, inl, inr, arith}
use Rattle.pc_types.specs.Shapes.{NoMembers}
use Rattle.pc_types.specs.Table.{Table}
use Rattle.pc_closing.specs.WholeLaws.{leads-more}
use Rattle.pc_closing.specs.Search.{Marks, Moves, IsSeen, IsFollowed}
use Rattle.pc_closing.specs.MarksLaws.{moves-self, moves-through}
use Rattle.pc_closing.specs.FollowLaws.{seen-later}
use Rattle.pc_closing.specs.Searched.{BadAt, IsNoted, Gathers}
use Rattle.pc_closing.specs.SpreadLaws.{less-or-not}

pub gathers-none : (flags : List Bool) (table : Table) (us : List (List ℕ)) (m : Marks) → Gathers flags table us us m m 0
gathers-none flags table us m = record { moves = moves-self (BadAt table (length flags)) us m; followed = λ i h. absurd (omega (arith, h)) }

followed-later : (flags : List Bool) (table : Table) (us vs : List (List ℕ)) (m n : Marks) (i : ℕ) → Moves (BadAt table (length flags)) us vs m n → IsFollowed flags table us m i →
    IsFollowed flags table vs n i
followed-later flags table us vs m n i f (inl b) = inl (f.later i b)
followed-later flags table us vs m n i f (inr l) =
    inr (leads-more (IsSeen flags table.shapes us i) (IsSeen flags table.shapes vs i) (seen-later table flags us vs m n i f) table.domains (get_or table.shapes (length flags + i) NoMembers) l)

pub gathers-more : (flags : List Bool) (table : Table) (us vs ws : List (List ℕ)) (m n o : Marks) (count : ℕ) → Gathers flags table us vs m n count → IsNoted flags table count vs ws n o →
    Gathers flags table us ws m o (count + 1)
gathers-more flags table us vs ws m n o count g h = record {
  moves = moves-through (BadAt table (length flags)) us vs ws m n o g.moves h.moves;
  followed = λ i l. elim (less-or-not i count) [
    | inl k ↦ followed-later flags table vs ws n o i h.moves (g.followed i k)
    | inr k ↦
        let same : count ≡ i = omega (arith, l, k) in
        subst (IsFollowed flags table ws o) same h.followed
  ];
}
