-- The connection of an origin ended, or broke: its line is over, or asked elsewhere, and then replies end.
use Rattle.std.proofs.Common.{◌≡◌, refl, sym, subst, ap, ◌∙◌, ℕ, Bool, true, false, ◌&&◌, Some, None, Option}
use Rattle.pp_turns_law.proofs.Peers.{HasPeer}
use Rattle.pp_turns_law.specs.Sides.{ShowsSides}
use Rattle.pp_desk.specs.Closings.{Sides, closed_conn}
use Rattle.pp_framing.specs.declared.body.Ending.{Ending}
use Rattle.pp_framing.specs.declared.body.Ending.TheVariants.{Whole, Short}
use Rattle.pp_law.specs.After.{gone}
use Rattle.pp_law.specs.Connections.{close_conn, conn}
use Rattle.pp_law.specs.Lists.{Bytes}
use Rattle.pp_law.specs.Replies.{end_replies}
use Rattle.pp_law.specs.Responses.{close_this, ended, finish_first, is_whole_at_end}
use Rattle.pp_law.specs.State.{State, Answer, Conn}
use Rattle.pp_origins.specs.Responses.{ended_by, ending_by, origin_gone, whole_where}
use Rattle.pp_peers.specs.declared.peers.Peer.{Peer}
use Rattle.pp_peers_law.proofs.Endings.{endings}
use Rattle.pp_peers_law.specs.Comes.{ending_of}
use Rattle.pp_pipe.specs.Line.{ended_with}
use Rattle.pp_endings_law.proofs.GoneShort.{peer, piped, short_shows}
use Rattle.pp_endings_law.proofs.GoneWhole.{whole_ends}
use Rattle.pp_endings_law.proofs.Ended.{all_end}
use Rattle.pp_endings_law.specs.Gone.{EndsAreTheLaws, GonesAreTheLaws, MayBeGone}
use Rattle.pp_endings_law.specs.Replies.{HasEnded}

module _ (number : ℕ → ℕ) (name : Bytes) (x : Sides) (s : State) (shows : ShowsSides number name x s) (is_clean : Bool) (n : ℕ) (k : Conn) (may : MayBeGone n s k) where
  its : HasPeer s n x.peers k
  its = peer number name x s shows n k may

  abbrev program_by : Option Peer → Sides
  program_by o = closed_conn n true (whole_where (ending_by is_clean o) n (let y : Sides = record x { peers = ended_by is_clean n o x.peers } in y))

  abbrev program_at : Ending → Sides
  program_at ending = closed_conn n true (whole_where ending n (piped number name x s shows n k may (ended_with ending its.peer.pipe)))

  program : origin_gone is_clean n x ≡ program_at (ending_of is_clean k.answer)
  program = ap program_by its.there ∙ ap program_at (endings s its.peer k is_clean its.shows may.goes_on)

  abbrev law_by : Option Answer → State
  law_by o = elim o as (λ t. State) [
    | None ↦ close_conn true k s
    | Some a ↦ elim (is_clean && is_whole_at_end a) as (λ t. State) [ true ↦ close_this k.number (finish_first k a s) | false ↦ close_conn true k s ]
  ]

  law : ended is_clean k s ≡ law_by k.answer
  unfolding ended
  law = refl

  by_end : (a : Answer) → k.answer ≡ Some a → (b : Bool) → ShowsSides number name (program_at (elim b as (λ t. Ending) [ true ↦ Whole | false ↦ Short ])) (elim b as (λ t. State) [ true ↦ close_this k.number (finish_first k a s) | false ↦ close_conn true k s ])
  by_end a is true = whole_ends number name x s shows n k may a (may.answers a is) (ended_with Whole its.peer.pipe)
  by_end a is false = short_shows number name x s shows n k may (ended_with Short its.peer.pipe)

  by_answer : (o : Option Answer) → k.answer ≡ o → ShowsSides number name (program_at (ending_of is_clean o)) (law_by o)
  by_answer None none = short_shows number name x s shows n k may (ended_with Short its.peer.pipe)
  by_answer (Some a) is = by_end a is (is_clean && is_whole_at_end a)

  pub ends_shown : ShowsSides number name (origin_gone is_clean n x) (ended is_clean k s)
  ends_shown =
      subst (λ (y : Sides). ShowsSides number name y (ended is_clean k s)) (sym program)
      (subst (λ (t : State). ShowsSides number name (program_at (ending_of is_clean k.answer)) t) (sym law) (by_answer k.answer refl))

pub ends_gone : EndsAreTheLaws
ends_gone number name x s shows is_clean n k may = ends_shown number name x s shows is_clean n k may

gone_is : (is_clean : Bool) (n : ℕ) (s : State) (k : Conn) → conn s n ≡ Some k → gone is_clean n s ≡ end_replies (ended is_clean k s)
unfolding gone
gone_is is_clean n s k there = ap (λ (o : Option Conn). elim o as (λ t. State) [ None ↦ s | Some j ↦ end_replies (ended is_clean j s) ]) there

pub all_gone : GonesAreTheLaws
all_gone number name x s shows is_clean n k awake may looked leave all y is =
    subst (λ (t : State). HasEnded number name y (ended is_clean k s) t) (sym (gone_is is_clean n s k may.there))
    (all_end number name (origin_gone is_clean n x) (ended is_clean k s) (ends_shown number name x s shows is_clean n k may) awake y looked leave all is)
