-- How much all connections may hold together, and who may go on (all this project's own). In bytes.
use Rattle.std.specs.Prelude.{ℕ, ◌+◌, ◌-◌, ◌*◌, Bool, Option, nat_lt, not}
use Rattle.input_http.specs.Limits.{longest_body, longest_head}
use Rattle.serve_sockets.specs.declared.stock.Stock.{Stock}

abbrev pub held_of : Stock → ℕ
held_of stock = stock.held

-- the one whose large request may come where there is no room for those of all
abbrev pub favoured_of : Stock → Option ℕ
favoured_of stock = stock.favoured

abbrev pub holds_back_of : Stock → Bool
holds_back_of stock = stock.holds_back

-- of all connections
abbrev pub most_held : ℕ
most_held = 268435456

-- of one request with its head
abbrev pub longest_request : ℕ
longest_request = longest_head + longest_body

-- there is room for two of the longest requests
abbrev pub has_memory_for_all : Stock → Bool
has_memory_for_all stock = not (nat_lt (most_held - 2 * longest_request) stock.held)
