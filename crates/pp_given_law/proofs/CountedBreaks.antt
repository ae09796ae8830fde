-- Of what is dropped as much is counted as came, where the connection of an origin breaks: it has no line any more.
use Rattle.std.proofs.Common.{◌≡◌, sym, subst, ap, ℕ, Bool, true, false, find, List, Some}
use Rattle.std.specs.Prelude.{option_and_then}
use Rattle.pp_desk.specs.Closings.{Sides, sides}
use Rattle.pp_desk.specs.declared.desk.Desk.{Desk}
use Rattle.pp_flow.specs.Changes.{Exchanges, entry_of}
use Rattle.pp_flow_law.specs.Tables.{ShowsFlow, none_leaves}
use Rattle.pp_framing.specs.declared.body.Ending.{Ending}
use Rattle.pp_framing.specs.declared.body.Ending.TheVariants.{Whole, Short}
use Rattle.pp_law.specs.After.{event, gone, paid}
use Rattle.pp_law.specs.Connections.{close_conn, conn}
use Rattle.pp_law.specs.Replies.{regained}
use Rattle.pp_law.specs.Responses.{ended}
use Rattle.pp_law.specs.State.{State, Conn}
use Rattle.pp_law.specs.Unseen.{came_of}
use Rattle.pp_origins.specs.Responses.{ended_by, ending_by, origin_gone, whole_where}
use Rattle.pp_peers.specs.Peers.{is_number as is_peer}
use Rattle.pp_state.specs.Ends.{parts}
use Rattle.pp_state.specs.Lines.{first_on}
use Rattle.pp_stays_law.proofs.Came.{AllConns}
use Rattle.pp_stays_law.proofs.Counted.{IsAsBefore, all_as_before}
use Rattle.pp_stays_law.proofs.Walk.{AllOf}
use Rattle.pp_proxy.specs.Handling.{Breaks}
use Rattle.pp_given_law.proofs.CountedWalk.{whole_on as all_whole}
use Rattle.pp_stays_law.proofs.Fits.{bodies_suit}
use Rattle.pp_given_law.proofs.CountedReads.{ends_all, pays, replies_on, then_conns}
use Rattle.pp_given_law.proofs.CountedTicks.{G, HasOld, P, closes, each, line_closed, old_counted, starts_old}
use Rattle.pp_given_law.specs.Counts.{CountedAsBroken}

-- ---- the law

module _ (n c : ℕ) where
  in_event : (s : State) → P n c s → P n c (event s)
  unfolding event regained
  in_event s h = h

  ends : (k : Conn) (s : State) → P n c s → P n c (ended false k s)
  unfolding ended
  ends k s h = each n c k.answer (close_conn true k s) (λ a. close_conn true k s) (closes n c true k s h) (λ a. closes n c true k s h)

  goes : (m : ℕ) (s : State) → P n c s → P n c (gone false m s)
  unfolding gone
  goes m s h = each n c (conn s m) s _ h (λ k. ends_all n c (ended false k s) (ends k s h))

  pub breaks_old : (m : ℕ) (s : State) → P n c s → P n c (paid (gone false m (event s)))
  breaks_old m s h = pays n c (gone false m (event s)) (goes m (event s) (in_event s h))

-- ---- the program

module _ (f : Exchanges) where
  where_whole : (e : Ending) (k : ℕ) (x : Sides) → G f x.parts → G f (whole_where e k x).parts
  where_whole Whole k x h = all_whole (IsAsBefore f) (bodies_suit f) k (option_and_then (λ number. entry_of number x.parts.flow) (first_on k x.parts)) x h
  where_whole Short k x h = h

  pub gone_on : (is_clean : Bool) (k : ℕ) (x : Sides) → G f x.parts → G f (origin_gone is_clean k x).parts
  gone_on is_clean k x h =
      let y : Sides = record x { peers = ended_by is_clean k (find (is_peer k) x.peers) x.peers } in
      let z : Sides = whole_where (ending_by is_clean (find (is_peer k) x.peers)) k y in
      line_closed f k true (find (is_peer k) z.peers) z.parts (where_whole (ending_by is_clean (find (is_peer k) x.peers)) k y h)

  breaks_on : (k : ℕ) (x y : Desk) → Breaks k x y → G f (parts x.state) → G f (parts y.state)
  breaks_on k x y is h =
      replies_on f is.anew.state.awake.items (origin_gone false k (sides is.anew)) (sides y) is.ends
      (gone_on false k (sides is.anew) (subst (λ (g : Exchanges). AllOf (IsAsBefore f) g.placed) (sym (ap (λ (d : Desk). d.state.flow) is.regains.rest)) h))

-- ---- both

pub as_broken : CountedAsBroken
as_broken k number x y s stands is it counted = old_counted number x.moving.desk.state.flow y.moving.desk.state.flow s it.handled.handled shows it.handled.stands.desk.turn.steps.shows.exchanges bodies old counted
  where
    shows : ShowsFlow number none_leaves x.moving.desk.state.flow s
    shows = stands.desk.turn.steps.shows.exchanges

    bodies : AllOf (IsAsBefore x.moving.desk.state.flow) y.moving.desk.state.flow.placed
    bodies = breaks_on x.moving.desk.state.flow k x.moving.desk y.moving.desk is.0 (all_as_before number x.moving.desk.state.flow s shows)

    old : (m : ℕ) (j : Conn) → conn s m ≡ Some j → AllConns (HasOld m (came_of j)) it.handled.handled.conns
    old m j here =
        subst (λ (ks : List Conn). AllConns (HasOld m (came_of j)) ks) (sym (then_conns (paid (gone false k (event s))) it.handled.handled it.handled.anew))
        (breaks_old m (came_of j) k s (starts_old s m j (stands.desk.may.apart m) here))
