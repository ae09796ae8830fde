-- What clients follow is read of what comes next to each, of whether it is closing, and of its reply, alone.
use Rattle.std.proofs.Common.{◌≡◌, sym, subst, ℕ, Bool, true, false, find, map, List, [], ◌∷◌, Some, Option}
use Rattle.std.specs.Prelude.{IfSome, ⊤}
use Rattle.pp_turns_law.specs.Unseen.{AreFollowing}
use Rattle.pp_cache.specs.Memory.{Memory}
use Rattle.pp_law.specs.Stages.{reply_of}
use Rattle.pp_law.specs.State.{State, Client, Instance, Reply}
use Rattle.pp_law.specs.Table.{is_instance}
use Rattle.pp_objects.specs.Instances.{is_there}
use Rattle.pp_seats.specs.Follows.{next_of}
use Rattle.pp_seats.specs.declared.seat.Next.{Next}
use Rattle.pp_seats.specs.declared.seat.Seat.{Seat}

-- whether it is closing, and its reply
abbrev pub replying : Client → Bool × Option Reply
replying c = (c.is_closing, reply_of c)

abbrev HasSourceIn : List Instance → Option Reply → Type 0
HasSourceIn is o = (r : Reply) (id : ℕ) → o ≡ Some r → r.source ≡ Some id → (x : Instance) × (find (is_instance id) is ≡ Some x)

abbrev pub FollowingBy : Memory → List Instance → List (Option Next) → List (Bool × Option Reply) → Type 0
FollowingBy m is [] [] = ⊤
FollowingBy m is (n ∷ ns) (r ∷ rs) = IfSome n (λ x. is_there x.source m.instances ≡ true) × (r.0 ≡ false → HasSourceIn is r.1) × FollowingBy m is ns rs
FollowingBy m is ns rs = ⊥

pub by_these : (m : Memory) (s : State) (seats : List Seat) (cs : List Client) → AreFollowing m s seats cs → FollowingBy m s.instances (map (λ seat. next_of seat) seats) (map replying cs)
by_these m s [] [] following = tt
by_these m s [] (c ∷ cs) following = absurd following
by_these m s (seat ∷ seats) [] following = absurd following
by_these m s (seat ∷ seats) (c ∷ cs) following = (following.0, following.1, by_these m s seats cs following.2)

pub of_these : (m : Memory) (s : State) (seats : List Seat) (cs : List Client) → FollowingBy m s.instances (map (λ seat. next_of seat) seats) (map replying cs) → AreFollowing m s seats cs
of_these m s [] [] following = tt
of_these m s [] (c ∷ cs) following = absurd following
of_these m s (seat ∷ seats) [] following = absurd following
of_these m s (seat ∷ seats) (c ∷ cs) following = (following.0, following.1, of_these m s seats cs following.2)

-- where these stay, they follow on
pub follow_on : (m k : Memory) (s t : State) (seats others : List Seat) → k ≡ m → t.instances ≡ s.instances → map (λ (seat : Seat). next_of seat) others ≡ map (λ (seat : Seat). next_of seat) seats
    → map replying t.clients ≡ map replying s.clients → AreFollowing m s seats s.clients → AreFollowing k t others t.clients
follow_on m k s t seats others memory instances nexts replies following =
    of_these k t others t.clients
    (subst (λ (x : Memory). FollowingBy x t.instances (map (λ (seat : Seat). next_of seat) others) (map replying t.clients)) (sym memory)
    (subst (λ (is : List Instance). FollowingBy m is (map (λ (seat : Seat). next_of seat) others) (map replying t.clients)) (sym instances)
    (subst (λ (ns : List (Option Next)). FollowingBy m s.instances ns (map replying t.clients)) (sym nexts)
    (subst (λ (rs : List (Bool × Option Reply)). FollowingBy m s.instances (map (λ (seat : Seat). next_of seat) seats) rs) (sym replies) (by_these m s seats s.clients following)))))
