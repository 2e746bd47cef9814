-- The numbers of a store's errors.
use Rattle.std.specs.Prelude.{ℕ}
use Rattle.log_store.specs.declared.store.StoreError.{StoreError}
use Rattle.log_store.specs.declared.store.StoreError.TheVariants.{Memory, Device}

-- the number of an error
abbrev pub store_error_number : StoreError → ℕ
store_error_number Memory = 1
store_error_number Device = 2
