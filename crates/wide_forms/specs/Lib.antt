pub mod Wide
