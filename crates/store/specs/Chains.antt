-- The digests of a log's beginnings.
use Rattle.std.specs.Prelude.{ℕ, ◌+◌, ◌==◌, ◌&&◌, min, if◌then◌else◌, Option, Some, None, List, [], ◌∷◌, ◌++◌, fold, replicate}
use Rattle.model.specs.declared.entry.Entry.{Entry}
use Rattle.model.specs.declared.entry.Request.{Request}
use Rattle.journal.specs.Digests.{next_digest}
use Rattle.store.specs.declared.chain.Link.{Link}

-- one more; the greatest number of 64 bits stays
abbrev pub one_more : ℕ → ℕ
one_more n = min (n + 1) 18446744073709551615

-- how many requests of the store's own client are executed with this one more: one with the next number is, another is not
abbrev pub own_after : ℕ → Option Request → ℕ
own_after own None = own
own_after own (Some r) = if (r.client == 65535) && (r.number == one_more own) then one_more own else own

abbrev pub requests_after : ℕ → Option Request → ℕ
requests_after n None = n
requests_after n (Some r) = one_more n

-- the stamp of the last request, with an entry of this request and this stamp more
abbrev pub last_after : ℕ → Option Request → ℕ → ℕ
last_after last None stamp = last
last_after last (Some r) stamp = stamp

-- what is known of a log without entries, and of one with an entry more
abbrev pub first_link : Link
first_link = record { digest = replicate 32 0; own = 0; requests = 0; last = 0 }

abbrev pub next_link : Link → Entry → Link
next_link l e = record { digest = next_digest l.digest e; own = own_after l.own e.request; requests = requests_after l.requests e.request; last = last_after l.last e.request e.stamp }

-- what is known of the last of these beginnings
abbrev pub last_link : List Link → Link
last_link links = fold (λ before l. l) first_link links

-- those with an entry more
abbrev pub link_entry : List Link → Entry → List Link
link_entry links e = links ++ next_link (last_link links) e ∷ []

-- those of a log
abbrev pub links_of : List Entry → List Link
links_of log = fold link_entry [] log
