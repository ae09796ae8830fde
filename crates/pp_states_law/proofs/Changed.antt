-- One client is changed.
use Rattle.std.proofs.Common.{◌≡◌, refl, sym, subst, ap, ap₂, ◌∙◌, ℕ, Bool, true, false, ◌==◌, List, [], ◌∷◌, Some, None, Option, arith}
use Rattle.std.proofs.lemmas.Bool.Decides.{nat_tests}
use Rattle.std.specs.Prelude.{slice_set}
use Rattle.pp_cache_law.proofs.Framing.{frames_of, the_same}
use Rattle.pp_cache_law.proofs.PairLemmas.{count_mapped_same}
use Rattle.pp_flow_law.proofs.Framed.{frames as flow_frames}
use Rattle.pp_law.specs.Connections.{exchange, is_client, on_client, on_client_of}
use Rattle.pp_law.specs.Lists.{change, is_this}
use Rattle.pp_law.specs.State.{State, Client}
use Rattle.pp_law.specs.Table.{follows}
use Rattle.pp_seats_law.proofs.AllSeats.{changes_there as seats_change}
use Rattle.pp_states_law.specs.Clients.{AskersAreTheLaws, ChangesAreTheLaws, FollowsOn, NobodysAreTheLaws}
use Rattle.pp_states_law.specs.States.{ShowsState}
use Rattle.pp_states_law.proofs.Asked.{all_as, frames, itself}

abbrev changed_if : ℕ → (Client → Client) → Client → Client
changed_if n f c = elim (is_client n c) as (λ b. Client) [ true ↦ f c | false ↦ c ]

follows_on : (n : ℕ) (f : Client → Client) → FollowsOn f → (id : ℕ) (c : Client) → follows id (changed_if n f c) ≡ follows id c
follows_on n f on id c = by (is_client n c)
  where
    by : (b : Bool) → follows id (elim b as (λ b. Client) [ true ↦ f c | false ↦ c ]) ≡ follows id c
    by true = on id c
    by false = refl

pub changes : ChangesAreTheLaws
unfolding on_client
changes number name owed l p s shows n i new f at on goes = record {
  clients = seats_change number name owed p.seats s.clients n i new f shows.clients at goes;
  exchanges = flow_frames number l p.flow s shows.exchanges l (on_client n f s) (record { exchanges = refl; next = refl; lines = λ m. refl });
  table =
      frames_of number p.memory s shows.table p.memory (on_client n f s) (record { instances = refl; lives = refl; chunks = refl; extents = refl })
      (record { instances = refl; made = the_same s.next_instance; chunks = refl; followers = λ id. count_mapped_same (follows id) (changed_if n f) s.clients (follows_on n f on id); kept = λ x. refl });
  conns = frames s (on_client n f s) p.peers s.conns (all_as s (on_client n f s) (λ m. itself (exchange s m)) s.conns) shows.conns;
}

-- ---- that of an exchange

other_way : (m n : ℕ) → (m == n) ≡ (n == m)
other_way m n = grind (arith, nat_tests)

abbrev pub asker_is : Option ℕ → Client → Bool
asker_is asker c = is_this c.number asker

same_change : (n : ℕ) (f : Client → Client) (cs : List Client) → change (asker_is (Some n)) f cs ≡ change (is_client n) f cs
same_change n f [] = refl
same_change n f (c ∷ cs) = ap₂ (λ (b : Bool) (ds : List Client). (elim b as (λ t. Client) [ true ↦ f c | false ↦ c ]) ∷ ds) (other_way n c.number) (same_change n f cs)

none_changed : (f : Client → Client) (cs : List Client) → change (asker_is None) f cs ≡ cs
none_changed f [] = refl
none_changed f (c ∷ cs) = ap (λ (ds : List Client). c ∷ ds) (none_changed f cs)

abbrev with_clients : List Client → State → State
with_clients cs s = record s { clients = cs }

pub askers : AskersAreTheLaws
unfolding on_client on_client_of
askers number name owed l p s shows e n i new f asks at on goes =
    subst (λ (cs : List Client). ShowsState number name owed l (record p { seats = slice_set p.seats i new }) (with_clients cs s))
    (sym (ap (λ (asker : Option ℕ). change (asker_is asker) f s.clients) asks ∙ same_change n f s.clients))
    (changes number name owed l p s shows n i new f at on goes)

pub nobodys : NobodysAreTheLaws
unfolding on_client_of
nobodys number name owed l p s shows e f asks =
    subst (λ (cs : List Client). ShowsState number name owed l p (with_clients cs s)) (sym (ap (λ (asker : Option ℕ). change (asker_is asker) f s.clients) asks ∙ none_changed f s.clients)) shows
