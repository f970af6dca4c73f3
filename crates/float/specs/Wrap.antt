-- The remainder by TAU and the two `wrap_to_pi`, as `scalar` defines them.
pub use Rattle.scalar.specs.Wrap.{rem_tau}
unfoldable pub use Rattle.scalar.specs.Wrap.{rem_euclid_tau, wrap_to_pi, inverse_wrap_to_pi}
