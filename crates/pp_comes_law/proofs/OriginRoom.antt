-- Where a connection is read, and the first exchange of its line does not stop, there is room for what it may bring: also behind a wait.
use Rattle.std.proofs.Common.{◌≡◌, ◌<◌, refl, sym, subst, ap, ◌∙◌, ℕ, false, ◌==◌, ◌||◌, List, [], ◌∷◌, map, Option, Some, None, option_map, arith}
use Rattle.std.proofs.lemmas.Bool.Decides.{nat_tests}
use Rattle.std.specs.List.{list_any}
use Rattle.pp_cache_law.proofs.Finds.{find_mapped}
use Rattle.pp_comes_law.proofs.OriginAsked.{rested_number}
use Rattle.pp_comes_law.proofs.OriginThere.{first_off}
use Rattle.pp_law.specs.Asking.{pipe_room, read_limit, read_room, room_for}
use Rattle.pp_law.specs.Connections.{conn, exchange, front_of_line, is_exchange}
use Rattle.pp_law.specs.Lists.{first_some, is_some_with}
use Rattle.pp_law.specs.Served.{has_full_pipe, is_far_ahead, is_stopped}
use Rattle.pp_law.specs.Stages.{bound_of}
use Rattle.pp_law.specs.State.{State, Bound, Client, Conn, Exchange, Joining}
use Rattle.pp_law.specs.Turn.{rest_with, rested_client, rested_conn}
use Rattle.pp_law.specs.Unseen.{rested_exchange, wanted_to}
use Rattle.pp_world.specs.declared.event.Wants.{Wants}

-- ---- the same behind a wait

front_same : (w : Wants) (u : State) (j : Conn) → front_of_line (rest_with w u) (rested_conn u w j) ≡ option_map (rested_exchange u) (front_of_line u j)
unfolding rest_with
front_same w u j = by j.line
  where
    by : (line : List ℕ) → (elim line as (λ t. Option Exchange) [ [] ↦ None | n ∷ more ↦ exchange (rest_with w u) n ]) ≡ option_map (rested_exchange u) (elim line as (λ t. Option Exchange) [ [] ↦ None | n ∷ more ↦ exchange u n ])
    by [] = refl
    by (n ∷ more) = find_mapped (is_exchange n) (rested_exchange u) u.exchanges (λ e. ap (λ m. m == n) (rested_number u e))

room_same : (u : State) (e : Exchange) (c : Client) → pipe_room (rested_exchange u e) (rested_client u c) ≡ pipe_room e c
room_same u e c = by (bound_of e)
  where
    by : (o : Option Bound) → pipe_room (elim o as (λ t. Exchange) [ None ↦ e | Some b ↦ record e { body = Joining (wanted_to u b) } ]) (rested_client u c) ≡ pipe_room e c
    by None = refl
    by (Some b) = refl

first_mapped : (p q : Client → Option ℕ) (f : Client → Client) (cs : List Client) → ((c : Client) → p (f c) ≡ q c) → first_some p (map f cs) ≡ first_some q cs
first_mapped p q f [] same = refl
first_mapped p q f (c ∷ cs) same =
    ap (λ (o : Option ℕ). elim o as (λ t. Option ℕ) [ Some n ↦ Some n | None ↦ first_some p (map f cs) ]) (same c) ∙ ap (λ (r : Option ℕ). elim (q c) as (λ t. Option ℕ) [ Some n ↦ Some n | None ↦ r ]) (first_mapped p q f cs same)

-- ---- there is room

above_none : (n : ℕ) → (n == 0) ≡ false → 0 < n
above_none n isnt = grind (arith, nat_tests)

some_room : (p : Client → Option ℕ) (cs : List Client) → list_any (λ c. is_some_with (λ n. n == 0) (p c)) cs ≡ false → 0 < elim (first_some p cs) as (λ t. ℕ) [ None ↦ read_limit | Some n ↦ n ]
some_room p [] none = omega arith
some_room p (c ∷ cs) none = by (p c) (λ rest. some_room p cs rest) none
  where
    by : (o : Option ℕ) → (list_any (λ c. is_some_with (λ n. n == 0) (p c)) cs ≡ false → 0 < elim (first_some p cs) as (λ t. ℕ) [ None ↦ read_limit | Some n ↦ n ]) → (is_some_with (λ n. n == 0) o || list_any (λ c. is_some_with (λ n. n == 0) (p c)) cs) ≡ false
        → 0 < elim (elim o as (λ t. Option ℕ) [ Some n ↦ Some n | None ↦ first_some p cs ]) as (λ t. ℕ) [ None ↦ read_limit | Some n ↦ n ]
    by None rest off = rest off
    by (Some n) rest off = above_none n (first_off (n == 0) _ off)

pub has_room : (w : Wants) (u : State) (k : ℕ) (j : Conn) → conn (rest_with w u) k ≡ Some (rested_conn u w j) → is_some_with (is_stopped u) (front_of_line u j) ≡ false → 0 < read_room (rest_with w u) k
unfolding rest_with
has_room w u k j there goes =
    subst (λ (n : ℕ). 0 < n)
    (sym (ap (λ (o : Option Conn). elim o as (λ t. ℕ) [ None ↦ 0 | Some c ↦ elim (front_of_line (rest_with w u) c) as (λ t. ℕ) [ None ↦ read_limit | Some e ↦ room_for (rest_with w u) e ] ]) there
    ∙ ap (λ (o : Option Exchange). elim o as (λ t. ℕ) [ None ↦ read_limit | Some e ↦ room_for (rest_with w u) e ]) (front_same w u j))) (by (front_of_line u j) goes)
  where
    by : (o : Option Exchange) → is_some_with (is_stopped u) o ≡ false → 0 < elim (option_map (rested_exchange u) o) as (λ t. ℕ) [ None ↦ read_limit | Some e ↦ room_for (rest_with w u) e ]
    by None goes = omega arith
    by (Some e) goes =
        subst (λ (r : Option ℕ). 0 < elim r as (λ t. ℕ) [ None ↦ read_limit | Some n ↦ n ]) (sym (first_mapped (pipe_room (rested_exchange u e)) (pipe_room e) (rested_client u) u.clients (λ c. room_same u e c)))
        (some_room (pipe_room e) u.clients (first_off (list_any (has_full_pipe e) u.clients) (is_far_ahead u e) goes))
