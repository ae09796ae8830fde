-- What a report of the system says of both directions of a socket (epoll(7)).
use Rattle.std.specs.Prelude.{Bool, ◌||◌}
use Rattle.mio.specs.declared.event.event.Event.{Event}
use Rattle.mio.specs.Event.{is_readable, is_writable, is_error, is_read_closed, is_write_closed}

-- an end or an error of either direction: the next call in each direction does not wait, and tells which
abbrev pub is_over : Event → Bool
is_over report = is_error report || is_read_closed report || is_write_closed report

abbrev pub wakes_reader : Event → Bool
wakes_reader report = is_readable report || is_over report

abbrev pub wakes_writer : Event → Bool
wakes_writer report = is_writable report || is_over report
