-- A store in memory, and which of its calls fail.
use Rattle.std.specs.Prelude.{ℕ, zero, suc, ◌==◌, Bool, List, [], Option, Some, ⊤, refl}
use Rattle.std.specs.Coded.{Coded, code_by, coded_ℕ, coded_list, coded×}
use Rattle.std.specs.List.{list_any}
use Rattle.fault_counts.specs.Counts.{next_count}
use Rattle.oemm_blobs.specs.Content.{Content, content_code, no_content, with_blob}
use Rattle.oemm_blobs.specs.Store.{StoreState}
use Rattle.oemm_blobs.specs.declared.keys.Key.{Key}

-- the numbers of the calls that fail, counted from 1, and how many calls were made
pub record Armed : Type 0 where
  pub numbers : List ℕ
  pub calls : ℕ

-- these calls fail from now on
abbrev pub armed_with : List ℕ → Armed
armed_with numbers = record { numbers = numbers; calls = 0 }

-- whether the next call fails
abbrev pub fails_next : Armed → Bool
fails_next armed = list_any (λ number. number == next_count armed.calls) armed.numbers

-- one call later
abbrev pub after_call : Armed → Armed
after_call armed = record armed { calls = next_count armed.calls }

-- so many calls later
abbrev pub after_calls : ℕ → Armed → Armed
after_calls zero armed = armed
after_calls (suc made) armed = after_call (after_calls made armed)

-- a store in memory: its content, its counts, and which calls of each kind fail
pub record Memory : Type 0 where
  pub content : Content
  pub faults : ℕ
  pub gets : ℕ
  pub puts : ℕ
  pub failing_gets : Armed
  pub failing_puts : Armed
  pub failing_erases : Armed

-- an empty store
abbrev pub new_memory : Memory
new_memory =
    record {
      content = no_content;
      faults = 0;
      gets = 0;
      puts = 0;
      failing_gets = armed_with [];
      failing_puts = armed_with [];
      failing_erases = armed_with [];
    }

-- it tells its content, and nothing of crashes
abbrev pub memory_store : Memory → StoreState
memory_store memory =
    record {
      content = Some memory.content;
      faults = memory.faults;
      gets = memory.gets;
      puts = memory.puts;
      clock = 0;
      left_since = λ time left. ⊤;
    }

-- one fault more
abbrev pub after_fault : Memory → Memory
after_fault memory = record memory { faults = next_count memory.faults }

-- the store once a put, a get or an erase was counted
abbrev pub after_put : Memory → Memory
after_put memory =
    record memory { puts = next_count memory.puts; failing_puts = after_call memory.failing_puts }

abbrev pub after_get : Memory → Memory
after_get memory =
    record memory { gets = next_count memory.gets; failing_gets = after_call memory.failing_gets }

abbrev pub after_erase : Memory → Memory
after_erase memory = record memory { failing_erases = after_call memory.failing_erases }

-- the store with these bytes under the key, or with none
abbrev pub with_bytes : Key → Option (List ℕ) → Memory → Memory
with_bytes key bytes memory = record memory { content = with_blob key bytes memory.content }

-- how it is kept as a value
abbrev pub armed_code : Coded Armed
armed_code =
    code_by (List ℕ × ℕ) (coded× (coded_list coded_ℕ) coded_ℕ) (λ a. (a.numbers, a.calls))
    (λ p. record { numbers = p.0; calls = p.1 }) (λ _. refl)

abbrev pub memory_code : Coded Memory
memory_code =
    code_by
    (Content × (ℕ × (ℕ × (ℕ × (Armed × (Armed × Armed))))))
    (coded× content_code (coded× coded_ℕ (coded× coded_ℕ (coded× coded_ℕ (coded× armed_code
    (coded× armed_code armed_code))))))
    (λ m. (m.content, (m.faults, (m.gets, (m.puts, (m.failing_gets, (m.failing_puts, m.failing_erases)))))))
    (λ p. record {
      content = p.0;
      faults = p.1.0;
      gets = p.1.1.0;
      puts = p.1.1.1.0;
      failing_gets = p.1.1.1.1.0;
      failing_puts = p.1.1.1.1.1.0;
      failing_erases = p.1.1.1.1.1.1;
    })
    (λ _. refl)
