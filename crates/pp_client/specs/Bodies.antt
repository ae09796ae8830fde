-- What the bytes behind the head of a request are (RFC 2616, section 4.4).
use Rattle.std.specs.Prelude.{ℕ, ◌≡◌, ◌-◌, List, [], ◌∷◌, drop, Result, Ok, Err, ⊤}
use Rattle.pp_framing.specs.declared.body.BodyRule.{BodyRule}
use Rattle.pp_framing.specs.declared.body.BodyRule.TheVariants.{Empty, Length, Chunked, ToEnd}
use Rattle.pp_framing.specs.declared.framing.FramingFault.{FramingFault}
use Rattle.pp_client.specs.declared.body.Body.{Body}
use Rattle.pp_client.specs.declared.body.Body.TheVariants.{Unread, Dropped, Over}

-- its Content-Length, or nothing; ours: where the length of its body can't be told, no request follows
abbrev pub body_by : Result BodyRule FramingFault → Body
body_by (Ok (Length n)) = Unread n
body_by (Ok Empty) = Unread 0
body_by (Ok Chunked) = Unread 0
body_by (Ok ToEnd) = Unread 0
body_by (Err fault) = Over

-- what is kept of the bytes that come
abbrev pub kept : Body → List ℕ → List ℕ
kept (Unread n) bytes = bytes
kept (Dropped n) bytes = drop n bytes
kept Over bytes = []

-- once so many bytes came
abbrev pub later : Body → ℕ → Body
later (Unread n) len = Unread n
later (Dropped n) len = Dropped (n - len)
later Over len = Over

-- how many bytes of the current request's body are to be read
abbrev pub unread : Body → ℕ
unread (Unread n) = n
unread (Dropped n) = 0
unread Over = 0

-- once so many bytes of that body were taken
abbrev pub shortened : Body → ℕ → Body
shortened (Unread n) len = Unread (n - len)
shortened (Dropped n) len = Dropped n
shortened Over len = Over

-- once nobody reads the body any more, where so many bytes of it and of what follows are there
abbrev pub unwanted : Body → ℕ → Body
unwanted (Unread n) len = Dropped (n - len)
unwanted (Dropped n) len = Dropped n
unwanted Over len = Over

-- nothing is kept before the rest of a body that is dropped, or where no request follows
abbrev pub IsKept : List ℕ → Body → Type 0
IsKept [] body = ⊤
IsKept (b ∷ rest) (Unread n) = ⊤
IsKept (b ∷ rest) (Dropped n) = n ≡ 0
IsKept (b ∷ rest) Over = ⊥

-- a body is read only behind a head
abbrev pub IsIdle : List ℕ → Body → Type 0
IsIdle [] (Unread n) = ⊥
IsIdle [] (Dropped n) = ⊤
IsIdle [] Over = ⊤
IsIdle (b ∷ head) body = ⊤
