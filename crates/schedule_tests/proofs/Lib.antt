pub mod OtherSources
