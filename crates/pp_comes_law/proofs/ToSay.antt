-- To a client the same is to be said behind a wait as before it, and where a write is owed to an event.
use Rattle.std.proofs.Common.{◌≡◌, refl, ap, ◌∙◌, ℕ, Bool, true, false, ◌&&◌, ◌||◌, not, find, map, nat_lt, List, [], ◌∷◌, ◌++◌, Option, Some, None}
use Rattle.std.specs.Prelude.{option_map}
use Rattle.pp_cache_law.proofs.Finds.{find_mapped}
use Rattle.pp_events_law.proofs.Anew.{anew_if}
use Rattle.pp_law.specs.After.{event, owing}
use Rattle.pp_law.specs.Connections.{is_client, on_client, on_conn}
use Rattle.pp_law.specs.Lists.{Bytes, is_some_with}
use Rattle.pp_law.specs.Offers.{has_to_say, is_at_body, passed_part, piece}
use Rattle.pp_law.specs.Replies.{is_regained, regained, regained_by}
use Rattle.pp_law.specs.Stages.{is_passing, reply_of}
use Rattle.pp_law.specs.State.{State, Client, Instance, Reply}
use Rattle.pp_law.specs.Table.{Next, instance, is_instance, is_next_held, next_from, next_in, next_of}
use Rattle.pp_law.specs.Turn.{marked_client, rest_with, rested_client, rested_instance, touch}
use Rattle.pp_text.specs.Bytes.{is_empty}
use Rattle.pp_world.specs.declared.event.Wants.{Wants}
use Rattle.pp_comes_law.specs.ClientWrites.{at_write}

-- ---- the clients to whom a write is owed

pub kept_of : ℕ → State → Client → Client
kept_of n s c = regained_by s (elim (is_client n c) as (λ t. Client) [ true ↦ marked_client s.clock c | false ↦ c ])

pub same_clients : (n : ℕ) (s : State) → (at_write n s).clients ≡ map (kept_of n s) s.clients
unfolding event owing regained touch on_conn on_client kept_of
same_clients n s = map_twice (regained_by s) (λ c. elim (is_client n c) as (λ t. Client) [ true ↦ marked_client s.clock c | false ↦ c ]) s.clients
  where
    map_twice : (g f : Client → Client) (cs : List Client) → map g (map f cs) ≡ map (λ c. g (f c)) cs
    map_twice g f [] = refl
    map_twice g f (c ∷ cs) = ap (λ (ds : List Client). g (f c) ∷ ds) (map_twice g f cs)

-- by what is no part of a mark, nor of attempts
pub kept_same : {A : Type 0} (n : ℕ) (s : State) (g : Client → A) → ((b : Bool) (c : Client) → g (anew_if b c) ≡ g c) → ((c : Client) → g (marked_client s.clock c) ≡ g c) → (c : Client) → g (kept_of n s c) ≡ g c
unfolding kept_of
kept_same n s g anew mark c = by (is_client n c)
  where
    by : (b : Bool) → g (regained_by s (elim b as (λ t. Client) [ true ↦ marked_client s.clock c | false ↦ c ])) ≡ g c
    by true = anew (is_regained s (marked_client s.clock c)) (marked_client s.clock c) ∙ mark c
    by false = anew (is_regained s c) c

-- ---- what is to be said

-- by the next byte of the client
abbrev says_by : State → Client → Option Next → Bool
says_by s c next =
    not (is_empty (elim (is_empty c.interim_left) as (λ t. Bytes) [
      | false ↦ c.interim_left
      | true ↦ elim (reply_of c) as (λ t. Bytes) [
        | None ↦ []
        | Some r ↦ elim r.has_begun as (λ t. Bytes) [
          | false ↦ []
          | true ↦ r.head_left ++ (elim (is_passing r.decision) as (λ t. Bytes) [ true ↦ passed_part c | false ↦ elim next as (λ t. Bytes) [ None ↦ [] | Some n ↦ piece s n ] ])
        ]
      ]
    ]))
    || (is_at_body c && is_some_with (is_next_held s) next)

abbrev rested_next : Next → Next
rested_next n = record n { source = rested_instance n.source }

module _ (w : Wants) (u : State) (id : ℕ) where
  abbrev v : State
  v = at_write id (rest_with w u)

  next_same : (c : Client) → next_of v c ≡ option_map rested_next (next_of u c)
  unfolding event owing regained touch on_conn on_client rest_with
  next_same c = by_closing c.is_closing
    where
      of_row : (x : Instance) (r : Reply) → next_from (rested_instance x) r ≡ option_map rested_next (next_from x r)
      of_row x r = by (nat_lt r.at r.to)
        where
          by : (b : Bool) → (elim b as (λ t. Option Next) [ true ↦ Some (record { source = rested_instance x; at = r.at; to = r.to }) | false ↦ None ]) ≡ option_map rested_next (elim b as (λ t. Option Next) [ true ↦ Some (record { source = x; at = r.at; to = r.to }) | false ↦ None ])
          by true = refl
          by false = refl

      of_found : (r : Reply) (o : Option Instance) → (elim (option_map rested_instance o) as (λ t. Option Next) [ None ↦ None | Some x ↦ next_from x r ]) ≡ option_map rested_next (elim o as (λ t. Option Next) [ None ↦ None | Some x ↦ next_from x r ])
      of_found r None = refl
      of_found r (Some x) = of_row x r

      by_source : (r : Reply) (o : Option ℕ) → (elim (elim o as (λ t. Option Instance) [ None ↦ None | Some n ↦ instance v n ]) as (λ t. Option Next) [ None ↦ None | Some x ↦ next_from x r ]) ≡ option_map rested_next (elim (elim o as (λ t. Option Instance) [ None ↦ None | Some n ↦ instance u n ]) as (λ t. Option Next) [ None ↦ None | Some x ↦ next_from x r ])
      by_source r None = refl
      by_source r (Some n) = ap (λ (o : Option Instance). elim o as (λ t. Option Next) [ None ↦ None | Some x ↦ next_from x r ]) (find_mapped (is_instance n) rested_instance u.instances (λ x. refl)) ∙ of_found r (find (is_instance n) u.instances)

      by_reply : (o : Option Reply) → (elim o as (λ t. Option Next) [ None ↦ None | Some r ↦ next_in v r ]) ≡ option_map rested_next (elim o as (λ t. Option Next) [ None ↦ None | Some r ↦ next_in u r ])
      by_reply None = refl
      by_reply (Some r) = by_source r r.source

      by_closing : (b : Bool) → (elim b as (λ t. Option Next) [ true ↦ None | false ↦ elim (reply_of c) as (λ t. Option Next) [ None ↦ None | Some r ↦ next_in v r ] ]) ≡ option_map rested_next (elim b as (λ t. Option Next) [ true ↦ None | false ↦ elim (reply_of c) as (λ t. Option Next) [ None ↦ None | Some r ↦ next_in u r ] ])
      by_closing true = refl
      by_closing false = by_reply (reply_of c)

  says_same : (c : Client) (o : Option Next) → says_by v c (option_map rested_next o) ≡ says_by u c o
  unfolding event owing regained touch on_conn on_client rest_with
  says_same c None = refl
  says_same c (Some n) = refl

  -- one of the turn's end, as it is where the write is owed
  pub to_say : (c : Client) → has_to_say v (kept_of id (rest_with w u) (rested_client u c)) ≡ has_to_say u c
  to_say c =
      kept_same id (rest_with w u) (λ (d : Client). has_to_say v d) (λ b d. anew b d) (λ d. refl) (rested_client u c)
      ∙ ap (λ (o : Option Next). says_by v c o) (next_same c) ∙ says_same c (next_of u c)
    where
      anew : (b : Bool) (d : Client) → has_to_say v (anew_if b d) ≡ has_to_say v d
      anew true d = refl
      anew false d = refl
