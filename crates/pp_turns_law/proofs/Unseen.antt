-- What is read of the body of an exchange is what the law reads of it.
use Rattle.std.proofs.Common.{◌≡◌, refl, ap, ap₂, ◌∙◌, ℕ, Bool, true, false, not, ◌==◌, ◌&&◌, ◌||◌, nat_lt, List, [], ◌∷◌, Option, Some, None, arith}
use Rattle.std.specs.Prelude.{is_some, IfSome}
use Rattle.std.specs.List.{list_any}
use Rattle.std.proofs.lemmas.Bool.Decides.{nat_tests}
use Rattle.pp_cache.specs.Memory.{Memory}
use Rattle.pp_flow.specs.declared.entry.Aim.{Aim}
use Rattle.pp_flow.specs.declared.entry.Aim.TheVariants.{Own as OfItself, Hole, Pass}
use Rattle.pp_flow.specs.declared.errand.Body.{Body as ErrandBody}
use Rattle.pp_flow.specs.declared.errand.Body.TheVariants.{Pending as IsPending, Joining as IsJoining, Relaying as IsRelaying, Dropping as IsDropping}
use Rattle.pp_law.specs.Lists.{Bytes, is_some_with}
use Rattle.pp_law.specs.Stages.{is_through as is_through_by}
use Rattle.pp_law.specs.State.{State, Body, Pending, Joining, Relaying, Dropping, Bound, Client, Conn, Aim as ItsAim, Through, Own, Filling}
use Rattle.pp_law.specs.Table.{Next, is_soon as is_soon_by, next_of as next_by}
use Rattle.pp_law.specs.Unseen.{at_of, came_of, has_reader_near as has_reader_by, is_worth_keeping as is_worth_by}
use Rattle.pp_objects.specs.Instances.{is_same_id, is_there}
use Rattle.pp_objects.specs.declared.id.ObjectId.{ObjectId}
use Rattle.pp_plan.specs.Need.{is_near}
use Rattle.pp_seats.specs.Follows.{next_of}
use Rattle.pp_seats.specs.declared.seat.Next.{Next as SeatNext}
use Rattle.pp_seats.specs.declared.seat.Seat.{Seat}
use Rattle.pp_seats_law.proofs.Nexts.{nexts}
use Rattle.pp_seats_law.specs.Clients.{AreShown}
use Rattle.pp_seats_law.specs.Exchanges.{Binding, IsBoundAs, ShowsBody, ShowsExchange}
use Rattle.pp_seats_law.specs.Fates.{aim_of}
use Rattle.pp_seats_law.specs.Words.{ShowsNext}
use Rattle.pp_state.specs.Unseen.{has_reader_near, is_kept, is_next_near, is_through, is_unseen, is_worth_keeping}
use Rattle.pp_turns_law.proofs.Comes.{shown_as}
use Rattle.pp_states_law.proofs.Told.{told_of}
use Rattle.pp_states_law.specs.Told.{IsToldBy}
use Rattle.pp_turns_law.specs.Unseen.{AreFollowing, IsCounted, UnseenIsTheLaws}

-- ---- a reader

either_way : (i j : ℕ) → (i == j) ≡ (j == i)
either_way i j = grind (arith, nat_tests)

same_ids : (a b : ObjectId) → is_same_id a b ≡ is_same_id b a
same_ids a b = ap₂ (λ (x y : Bool). x && y) (either_way a.slot b.slot) (either_way a.life b.life)

near_when : (same : Bool) (soon : Bool) (b : Bound) (at : ℕ) → soon ≡ is_soon_by b at → (same && soon) ≡ is_some_with (is_soon_by b) (elim same as (λ t. Option ℕ) [ true ↦ Some at | false ↦ None ])
near_when true soon b at is = is
near_when false soon b at is = refl

reader_same : (number : ℕ → ℕ) (m : Memory) (later : ℕ) (x : Binding) (far : ℕ) (b : Bound) (u : Option SeatNext) (v : Option Next) → IsBoundAs number x far b → IsToldBy number m later (Some x) → ShowsNext number u v → IfSome u (λ y. is_there y.source m.instances ≡ true)
    → is_next_near x.0 x.1 x.3 u ≡ is_some_with (is_soon_by b) (elim v as (λ o. Option ℕ) [ None ↦ None | Some n ↦ elim (n.source.id == b.instance) as (λ t. Option ℕ) [ true ↦ Some n.at | false ↦ None ] ])
reader_same number m later x far b None None bound told next there = refl
reader_same number m later x far b None (Some n) bound told next there = absurd next
reader_same number m later x far b (Some y) None bound told next there = absurd next
reader_same number m later x far b (Some y) (Some n) bound told next there =
    ap (λ (same : Bool). same && (x.3 || is_near x.1 y.at))
    (same_ids y.source x.0 ∙ told.apart y.source there ∙ either_way (number x.0.life) (number y.source.life) ∙ ap₂ (λ (i j : ℕ). i == j) next.source bound.joined)
    ∙ near_when (n.source.id == b.instance) (x.3 || is_near x.1 y.at) b n.at
    (ap₂ (λ (all : Bool) (from : ℕ). all || is_near from y.at) bound.is_all bound.next ∙ ap (λ (at : ℕ). b.is_all || is_near b.next at) next.at)

readers_same : (number : ℕ → ℕ) (m : Memory) (s : State) (name : Bytes) (owed : List Bytes) (x : Binding) (far : ℕ) (b : Bound) → IsBoundAs number x far b → IsToldBy number m s.next_instance (Some x)
    → (seats : List Seat) (cs : List Client) → AreShown number name owed seats cs → AreFollowing m s seats cs
    → list_any (λ seat. is_next_near x.0 x.1 x.3 (next_of seat)) seats ≡ list_any (λ c. is_some_with (is_soon_by b) (at_of s b c)) cs
readers_same number m s name owed x far b bound told [] [] shown following = refl
readers_same number m s name owed x far b bound told [] (c ∷ cs) shown following = absurd shown
readers_same number m s name owed x far b bound told (seat ∷ seats) [] shown following = absurd shown
readers_same number m s name owed x far b bound told (seat ∷ seats) (c ∷ cs) shown following =
    ap₂ (λ (t u : Bool). t || u)
    (reader_same number m s.next_instance x far b (next_of seat) (next_by s c) bound told (nexts number s name owed seat c shown.0 following.1) following.0)
    (readers_same number m s name owed x far b bound told seats cs shown.1 following.2)

-- ---- what is worth keeping

module _ (number : ℕ → ℕ) (m : Memory) (s : State) (name : Bytes) (owed : List Bytes) (seats : List Seat) (shown : AreShown number name owed seats s.clients) (following : AreFollowing m s seats s.clients) where
  worth_same : (x : Binding) (far : ℕ) (b : Bound) → IsBoundAs number x far b → IsToldBy number m s.next_instance (Some x) → is_worth_keeping (has_reader_near x.0 x.1 x.3 seats) x.1 x.2 far ≡ is_worth_by s b
  worth_same x far b bound told =
      ap₂ (λ (reader : Bool) (next : ℕ). reader || is_near next x.2 || (is_near far next && is_near next far)) (readers_same number m s name owed x far b bound told seats s.clients shown following) bound.next
      ∙ ap₂ (λ (to wanted : ℕ). has_reader_by s b || is_near b.next to || (is_near wanted b.next && is_near b.next wanted)) bound.to bound.wanted

  -- ---- by what becomes of the body

  unseen_as : (k : Conn) (through asked : Bool) (body : ErrandBody) (headed : Bool) (bound : Option Binding) (other : Body) → ShowsBody number body headed bound other → IsToldBy number m s.next_instance bound → IsCounted body k
      → is_unseen body through asked (is_kept seats body bound)
      ≡ (elim other as (λ o. Bool) [ Pending ↦ through && not asked | Joining b ↦ not (is_worth_by s b) | Relaying ↦ not asked | Dropping ↦ nat_lt 65536 (came_of k) ])
  unseen_as k through asked IsPending false None Pending shows told counted = refl
  unseen_as k through asked (IsJoining far) true (Some x) (Joining b) shows told counted = ap not (worth_same x far b shows told)
  unseen_as k through asked IsRelaying true None Relaying shows told counted = refl
  unseen_as k through asked (IsDropping n) true None Dropping shows told counted = ap (nat_lt 65536) counted
  unseen_as k through asked body headed bound other shows told counted = absurd shows

abbrev through_in : ItsAim → Bool
through_in aim = elim aim as (λ a. Bool) [ Through ↦ true | Own ↦ false | Filling v from to ↦ false ]

through_same : (aim : Aim) → is_through aim ≡ through_in (aim_of aim)
through_same OfItself = refl
through_same (Hole v from to) = refl
through_same Pass = refl

pub unseen : UnseenIsTheLaws
unseen number name l peers p s shows k n e d following here there counted =
    ap₂ (λ (through asked : Bool). is_unseen e.errand.body through asked (is_kept p.seats e.errand.body e.exchange.bound)) (through_same e.exchange.aim ∙ ap through_in it.aim) (ap (λ (o : Option ℕ). is_some o) it.asker)
    ∙ unseen_as number p.cache s name [] p.seats shows.shows.clients following k (is_through_by d) (is_some d.asker) e.errand.body e.exchange.headed e.exchange.bound d.body it.body (told_of number p.cache s.next_instance n p.flow e shows.told here) counted
  where
    it : ShowsExchange number e d
    it = shown_as number l p.flow s shows.shows.exchanges n e d here there
