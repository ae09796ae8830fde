-- Who waits for an exchange, and has nothing to be said to it, waits by the law.
use Rattle.std.proofs.Common.{◌≡◌, refl, sym, ap, ap₂, ◌∙◌, ℕ, Bool, true, false, ◌&&◌, ◌||◌, not, cond, find, is_some, List, [], ◌∷◌, ◌++◌, Option, Some, None, option_map}
use Rattle.std.specs.List.{list_any}
use Rattle.pp_turns_law.proofs.AllCome.{any_alike}
use Rattle.pp_turns_law.proofs.Comes.{brought_of}
use Rattle.pp_turns_law.proofs.Drying.{dry}
use Rattle.pp_turns_law.proofs.Follows.{has_source, is_next, none_some}
use Rattle.pp_turns_law.proofs.Shares.{shared_same}
use Rattle.pp_turns_law.proofs.WaitingFor.{waiting}
use Rattle.pp_turns_law.specs.Rows.{IsReady}
use Rattle.pp_turns_law.specs.Turns.{ShowsTurn}
use Rattle.pp_flow.specs.Changes.{Exchanges, first_of}
use Rattle.pp_flow.specs.Entries.{is_asked_by, is_of}
use Rattle.pp_flow.specs.declared.entry.Entry.{Entry}
use Rattle.pp_flow_law.specs.Tables.{Leaving}
use Rattle.pp_law.specs.Connections.{is_for}
use Rattle.pp_law.specs.Lists.{Bytes, is_this}
use Rattle.pp_law.specs.Requests.{Front, NoHeadYet, NoHead, IsRequest, has_request}
use Rattle.pp_law.specs.Sharing.{has_shared_ask as has_by_law, is_patient as patient_by_law, is_sharing as shares_by_law, shared_ask as shared_by_law}
use Rattle.pp_law.specs.Stages.{is_undecided}
use Rattle.pp_law.specs.State.{State, Client, Exchange, Reply, Shared, Stage, Undecided, Waiting, Passing, Answering}
use Rattle.pp_law.specs.Table.{Next, brings as brings_by_law, is_brought as brought_by_law, next_in, next_of as next_of_law}
use Rattle.pp_peers.specs.declared.peers.Peer.{Peer}
use Rattle.pp_seats.specs.Follows.{next_of}
use Rattle.pp_seats.specs.Heads.{is_there_in}
use Rattle.pp_seats.specs.Seats.{is_undecided_in}
use Rattle.pp_seats.specs.declared.front.Front.{Front as SeatFront}
use Rattle.pp_seats.specs.declared.front.Front.TheVariants.{NoHeadYet as NoneYet, NoHead as NoneThere, Request as IsThere}
use Rattle.pp_seats.specs.declared.seat.Next.{Next as SeatNext}
use Rattle.pp_seats.specs.declared.seat.Seat.{Seat}
use Rattle.pp_seats.specs.declared.seat.Shared.{Shared as SeatShared}
use Rattle.pp_seats_law.proofs.Nexts.{nexts}
use Rattle.pp_seats_law.proofs.Stages.{undecided}
use Rattle.pp_seats_law.specs.Dues.{waits_on_still}
use Rattle.pp_seats_law.specs.Fronts.{ShowsFront}
use Rattle.pp_seats_law.specs.Replies.{shared_of}
use Rattle.pp_seats_law.specs.Seats.{ShowsOpen, ShowsSeat}
use Rattle.pp_seats_law.specs.Words.{ShowsNext}
use Rattle.pp_state.specs.Ends.{parts}
use Rattle.pp_decide.specs.Sharing.{has_asked, has_shared_ask, may_wait_on}
use Rattle.pp_due.specs.Waits.{waits_for_next}
use Rattle.pp_state.specs.declared.state.State.{State as Turn}
use Rattle.pp_turns_law.specs.Marks.{SharingIsTheLaws, WaitingIsTheLaws, WaitsAreTheLaws}

-- ---- it shares what another one asks

abbrev has_by : State → Client → Option Shared → Bool
has_by s c o = elim o as (λ t. Bool) [ Some w ↦ patient_by_law s w | None ↦ is_some (shared_by_law s c) ]

has_same : (number : ℕ → ℕ) (l : Leaving) (peers : List Peer) (p : Turn) (s : State) (name : Bytes) (seat : Seat) (c : Client) → ShowsTurn number l peers p s → ShowsSeat number name [] seat c → c.is_closing ≡ false → IsReady number p.cache s.next_instance seat
    → has_shared_ask seat.waits_on seat p.now p.flow ≡ has_by_law s c
has_same number l peers p s name seat c shows seen going ready =
    let live : ShowsOpen number name [] seat c = seen.going going in
    by seat.waits_on refl ∙ ap (λ (o : Option Shared). has_by s c o) live.waits_on
  where
    by : (o : Option SeatShared) → seat.waits_on ≡ o → has_shared_ask o seat p.now p.flow ≡ has_by s c (option_map shared_of o)
    by None is = ap (λ (o : Option ℕ). is_some o) (shared_same number l peers p s name seat c shows (seen.going going).front ready.key)
    by (Some w) is =
        ap (λ (o : Option SeatShared). may_wait_on o p.now p.flow) (sym is) ∙ waiting number l peers p s name seat c shows seen going ready.follows
        ∙ ap (λ (o : Option SeatShared). waits_on_still s o) is

pub there_same : (front : SeatFront) (f : Front) → ShowsFront front f → is_there_in front ≡ has_request f
there_same NoneYet NoHeadYet shows = refl
there_same (NoneThere status) (NoHead other) shows = refl
there_same (IsThere a) (IsRequest r) shows = refl
there_same NoneYet (NoHead other) shows = absurd shows
there_same NoneYet (IsRequest r) shows = absurd shows
there_same (NoneThere status) NoHeadYet shows = absurd shows
there_same (NoneThere status) (IsRequest r) shows = absurd shows
there_same (IsThere a) NoHeadYet shows = absurd shows
there_same (IsThere a) (NoHead other) shows = absurd shows

abbrev shares_if : Bool → Bool → Bool → Bool
shares_if a b x = elim a as (λ t. Bool) [ true ↦ b && x | false ↦ false ]

shares_by : (a b x : Bool) → (a && b && x) ≡ shares_if a b x
shares_by false b x = refl
shares_by true false x = refl
shares_by true true x = refl

pub shares : SharingIsTheLaws
shares number l peers p s name seat c shows seen going ready =
    let live : ShowsOpen number name [] seat c = seen.going going in
    shares_by (is_undecided_in seat.stage) (is_there_in seat.front) (has_shared_ask seat.waits_on seat p.now p.flow)
    ∙ ap₂ (λ (a b : Bool). shares_if a b (has_shared_ask seat.waits_on seat p.now p.flow)) (undecided number name [] seat c live) (there_same seat.front c.front live.front)
    ∙ ap (λ (x : Bool). shares_if (is_undecided c.stage) (has_request c.front) x) (has_same number l peers p s name seat c shows seen going ready)

-- ---- it has asked

any_found : (test : Entry → Bool) (xs : List Entry) → is_some (find test xs) ≡ list_any test xs
any_found test [] = refl
any_found test (x ∷ xs) = by (test x) (any_found test xs)
  where
    by : (b : Bool) → is_some (find test xs) ≡ list_any test xs → is_some (cond b (Some x) (find test xs)) ≡ (b || list_any test xs)
    by true rest = refl
    by false rest = rest

any_joined : (test : Entry → Bool) (xs ys : List Entry) → list_any test (xs ++ ys) ≡ (list_any test xs || list_any test ys)
any_joined test [] ys = refl
any_joined test (x ∷ xs) ys = by (test x) (any_joined test xs ys)
  where
    by : (b : Bool) → list_any test (xs ++ ys) ≡ (list_any test xs || list_any test ys) → (b || list_any test (xs ++ ys)) ≡ ((b || list_any test xs) || list_any test ys)
    by true rest = refl
    by false rest = rest

first_some : (o q : Option Entry) → is_some (first_of o q) ≡ (is_some o || is_some q)
first_some None q = refl
first_some (Some x) q = refl

asked_any : (n : ℕ) (f : Exchanges) → has_asked n f ≡ list_any (is_asked_by n) (f.waiting ++ f.placed)
asked_any n f =
    first_some (find (is_asked_by n) f.waiting) (find (is_asked_by n) f.placed) ∙ ap₂ (λ (a b : Bool). a || b) (any_found (is_asked_by n) f.waiting) (any_found (is_asked_by n) f.placed)
    ∙ sym (any_joined (is_asked_by n) f.waiting f.placed)

of_same : (n : ℕ) (o : Option ℕ) → is_of n o ≡ is_this n o
of_same n None = refl
of_same n (Some m) = refl

asked_same : (number : ℕ → ℕ) (l : Leaving) (peers : List Peer) (p : Turn) (s : State) (n : ℕ) (c : Client) → ShowsTurn number l peers p s → n ≡ c.number → has_asked n p.flow ≡ list_any (λ (e : Exchange). is_for e c) s.exchanges
asked_same number l peers p s n c shows same =
    asked_any n p.flow
    ∙ any_alike number l p.flow s shows.steps.shows.exchanges (is_asked_by n) (λ (e : Exchange). is_for e c)
    (λ k x e here there shown. of_same n x.exchange.asker ∙ ap₂ (λ (m : ℕ) (o : Option ℕ). is_this m o) same shown.asker)

-- ---- it waits for an exchange

abbrev waits_by : State → Client → Option Next → Bool
waits_by s c o = list_any (λ (e : Exchange). elim o as (λ t. Bool) [ Some n ↦ brings_by_law s n.source n.at e | None ↦ is_for e c ]) s.exchanges || shares_by_law s c

abbrev reply_in : Stage → Option Reply
reply_in t = elim t as (λ b. Option Reply) [ Undecided ↦ None | Waiting ↦ None | Passing ↦ None | Answering r ↦ Some r ]

abbrev next_by_stage : State → Bool → Stage → Option Next
next_by_stage s closing t = elim closing as (λ b. Option Next) [ true ↦ None | false ↦ elim (reply_in t) as (λ b. Option Next) [ None ↦ None | Some r ↦ next_in s r ] ]

none_undecided : (s : State) (closing : Bool) → next_by_stage s closing Undecided ≡ None
none_undecided s true = refl
none_undecided s false = refl

abbrev shares_at : State → Client → Stage → Bool
shares_at s c t = elim (is_undecided t) as (λ b. Bool) [ true ↦ has_request c.front && has_by_law s c | false ↦ false ]

-- one that follows something shares nothing
follows_alone : (s : State) (c : Client) (n : Next) → next_of_law s c ≡ Some n → shares_by_law s c ≡ false
follows_alone s c n its = by c.stage refl
  where
    by : (t : Stage) → c.stage ≡ t → shares_by_law s c ≡ false
    by Undecided is = absurd (none_some (sym (ap (λ (t : Stage). next_by_stage s c.is_closing t) is ∙ none_undecided s c.is_closing) ∙ its))
    by Waiting is = ap (λ (t : Stage). shares_at s c t) is
    by Passing is = ap (λ (t : Stage). shares_at s c t) is
    by (Answering r) is = ap (λ (t : Stage). shares_at s c t) is

or_false : (b : Bool) → (b || false) ≡ b
or_false true = refl
or_false false = refl

by_next : (number : ℕ → ℕ) (l : Leaving) (peers : List Peer) (p : Turn) (s : State) (name : Bytes) (seat : Seat) (c : Client) (x : Option SeatNext) (y : Option Next) → ShowsTurn number l peers p s → ShowsSeat number name [] seat c → c.is_closing ≡ false → IsReady number p.cache s.next_instance seat
    → next_of seat ≡ x → next_of_law s c ≡ y → ShowsNext number x y → waits_for_next p seat x ≡ waits_by s c y
by_next number l peers p s name seat c None None shows seen going ready here there same =
    ap₂ (λ (a b : Bool). a || b) (asked_same number l peers p s seat.client.id c shows seen.number) (shares number l peers p s name seat c shows seen going ready)
by_next number l peers p s name seat c (Some x) (Some n) shows seen going ready here there same =
    brought_of number p.name.items l peers (parts p) s shows.steps x n (is_next number l peers p s name seat c x n shows seen going ready.follows here there same)
    ∙ sym (ap (λ (b : Bool). brought_by_law s n.source n.at || b) (follows_alone s c n there) ∙ or_false (brought_by_law s n.source n.at))
by_next number l peers p s name seat c (Some x) None shows seen going ready here there same = absurd same
by_next number l peers p s name seat c None (Some n) shows seen going ready here there same = absurd same

pub waits_alike : WaitsAreTheLaws
waits_alike number l peers p s name seat c shows seen going ready =
    by_next number l peers p s name seat c (next_of seat) (next_of_law s c) shows seen going ready refl refl (nexts number s name [] seat c seen (λ on. has_source number l peers p s name seat c shows seen going ready.follows))

pub waits_on : WaitingIsTheLaws
waits_on number l peers p s name seat c shows seen going ready =
    ap₂ (λ (a b : Bool). a && b) (waits_alike number l peers p s name seat c shows seen going ready) (dry number l peers p s name seat c shows seen going ready.follows)
