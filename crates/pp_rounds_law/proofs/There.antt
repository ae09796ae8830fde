-- Who is there, by number, as what nobody will see is dropped and clients are closed.
use Rattle.std.proofs.Common.{◌≡◌, refl, ◌∙◌, ℕ, Bool, true, false, ◌==◌, List, [], ◌∷◌, map, Option, Some, None}
use Rattle.pp_law.specs.Closing.{exchanges_of, leave_one, left_alone}
use Rattle.pp_law.specs.Connections.{each_exchange, end_exchange, exchange, is_client, on_client, on_exchange, without_ask}
use Rattle.pp_law.specs.State.{State, Client, Exchange}
use Rattle.pp_laws.proofs.Lists.{changed_at, map_kept}
use Rattle.pp_laws.proofs.Sound.{client_number, conn_number}
use Rattle.pp_laws_turn.proofs.View.{View, Walk, view}

pub record AreThere (cs ks : List ℕ) (v : View) : Type 0 where
  pub clients : map client_number v.clients ≡ cs
  pub conns : map conn_number v.conns ≡ ks

changed_number : (f : Client → Client) → ((c : Client) → (f c).number ≡ c.number) → (c : Client) (b : Bool) → client_number (elim b as (λ t. Client) [ true ↦ f c | false ↦ c ]) ≡ client_number c
changed_number f kept c true = kept c
changed_number f kept c false = refl

clients_changed : (test : Client → Bool) (f : Client → Client) → ((c : Client) → (f c).number ≡ c.number) → (clients : List Client) → map client_number (map (changed_at test f) clients) ≡ map client_number clients
clients_changed test f kept clients = map_kept client_number (changed_at test f) (λ c. changed_number f kept c (test c)) clients

module _ (cs ks : List ℕ) where
  one_leaves : (e : Exchange) (s : State) → AreThere cs ks (view s) → AreThere cs ks (view (leave_one e s))
  unfolding leave_one end_exchange on_exchange
  one_leaves e s there = by (e.asked == 0)
    where
      by : (b : Bool) → AreThere cs ks (view (elim b as (λ t. State) [ true ↦ end_exchange e.number s | false ↦ on_exchange e.number left_alone s ]))
      by true = record { clients = there.clients; conns = map_kept conn_number (without_ask e.number) (λ k. refl) s.conns ∙ there.conns }
      by false = record { clients = there.clients; conns = there.conns }

  all_leave : (ns : List ℕ) (s : State) → AreThere cs ks (view s) → AreThere cs ks (view (each_exchange leave_one ns s))
  unfolding each_exchange
  all_leave [] s there = there
  all_leave (n ∷ ns) s there = all_leave ns _ (by (exchange s n))
    where
      by : (o : Option Exchange) → AreThere cs ks (view (elim o as (λ t. State) [ None ↦ s | Some e ↦ leave_one e s ]))
      by None = there
      by (Some e) = one_leaves e s there

  quits : (n : ℕ) (f : Client → Client) → ((c : Client) → (f c).number ≡ c.number) → (s : State) → AreThere cs ks (view s) → AreThere cs ks (view (on_client n f s))
  unfolding on_client
  quits n f kept s there = record { clients = clients_changed (is_client n) f kept s.clients ∙ there.clients; conns = there.conns }

  -- each change that steps are made of leaves them
  pub there_walk : Walk (AreThere cs ks)
  there_walk = record {
    clients = λ f same v there. record { clients = map_kept client_number f (λ c. (same c).number) v.clients ∙ there.clients; conns = there.conns };
    asks = λ f v same there. record { clients = there.clients; conns = there.conns };
    left = λ test v there. record { clients = there.clients; conns = there.conns };
    over = λ test v there. record { clients = there.clients; conns = there.conns };
    conns = λ f lesser v there. record { clients = there.clients; conns = map_kept conn_number f (λ k. (lesser k).number) v.conns ∙ there.conns };
    rows = λ xs next v from there. record { clients = there.clients; conns = there.conns };
    leaves = λ n f moves v there. record { clients = clients_changed (is_client n) f (λ c. (moves c).number) v.clients ∙ there.clients; conns = there.conns };
    closes = λ n f kept closing body brought s there. all_leave (exchanges_of n s) (on_client n f s) (quits n f kept s there);
    tells = λ test b v within there. record { clients = clients_changed test (λ c. record c { brought = b }) (λ c. refl) v.clients ∙ there.clients; conns = there.conns };
  }
